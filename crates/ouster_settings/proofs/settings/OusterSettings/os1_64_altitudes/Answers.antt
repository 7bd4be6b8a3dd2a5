-- `ouster_settings::OusterSettings::os1_64_altitudes` meets its contract: the bits of each literal are the definition's decimal, rounded.
use Rattle.std.proofs.Common.{refl}
use Rattle.std.specs.Float.Ieee.{round, of_bits}
use Rattle.ouster_settings.specs.Settings.{os1_64_elevations}
use Rattle.ouster_settings.proofs.settings.OusterSettings.os1_64_altitudes.Goals as goal

pub returns : goal.returns
unfolding of_bits os1_64_elevations round
returns c = refl
