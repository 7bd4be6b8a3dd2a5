-- `units::Millimetres::metres` meets its contract: the literal's bits are 1000.0.
use Rattle.std.proofs.Common.{rules}
use Rattle.std.specs.Float.Ieee.{round, of_bits}
use Rattle.units.specs.Conversions.{metres_of_millimetres}
use Rattle.units.proofs.Millimetres.metres.Goals as goal

pub returns : goal.returns
unfolding metres_of_millimetres round of_bits
returns c = rw c.i32_to_f32.ensures (search rules)
