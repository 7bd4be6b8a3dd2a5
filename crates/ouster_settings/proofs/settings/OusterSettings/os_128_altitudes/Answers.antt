-- `ouster_settings::OusterSettings::os_128_altitudes` meets its contract: each call gives the definition's elevation at its index.
use Rattle.std.proofs.Common.{rules, ℕ, ◌<◌, ◌≡◌, length, get_or}
use Rattle.std.specs.Float.{nan}
use Rattle.std.specs.Float.Ieee.{round, of_bits}
use Rattle.points.proofs.Lists.{table}
use Rattle.ouster_settings.specs.Settings.{os_128_elevation, os_128_elevations}
use Rattle.ouster_settings.proofs.settings.OusterSettings.os_128_altitudes.Goals as goal

pub returns : goal.returns
unfolding os_128_elevations os_128_elevation of_bits round
returns c =
    let items = c.from_fn.ensures.items in
    let each : (i : ℕ) → i < length c.from_fn.result → get_or c.from_fn.result i nan ≡ os_128_elevation i = λ i h. let told = (items.at i nan (rw items.long at h)).2.met in search rules in
    rw items.long at (table os_128_elevation c.from_fn.result nan each)
