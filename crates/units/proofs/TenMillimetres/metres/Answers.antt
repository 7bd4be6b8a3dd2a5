-- `units::TenMillimetres::metres` meets its contract: the literal's bits are 0.01, rounded.
use Rattle.std.proofs.Common.{rules}
use Rattle.std.specs.Float.Ieee.{round, of_bits}
use Rattle.units.specs.Conversions.{metres_of_ten_millimetres}
use Rattle.units.proofs.TenMillimetres.metres.Goals as goal

pub returns : goal.returns
unfolding metres_of_ten_millimetres round of_bits
returns c = search rules
