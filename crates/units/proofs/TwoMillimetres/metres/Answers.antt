-- `units::TwoMillimetres::metres` meets its contract: the literal's bits are 0.002, rounded.
use Rattle.std.proofs.Common.{refl}
use Rattle.std.specs.Float.Ieee.{round, of_bits}
use Rattle.units.specs.Conversions.{metres_of_two_millimetres}
use Rattle.units.proofs.TwoMillimetres.metres.Goals as goal

pub returns : goal.returns
unfolding metres_of_two_millimetres round of_bits
returns c = refl
