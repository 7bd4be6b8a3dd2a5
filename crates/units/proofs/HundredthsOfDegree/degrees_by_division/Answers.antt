-- `units::HundredthsOfDegree::degrees_by_division` meets its contract: the literal's bits are 100.0.
use Rattle.std.proofs.Common.{refl}
use Rattle.std.specs.Float.Ieee.{round, of_bits}
use Rattle.units.specs.Conversions.{degrees_by_division}
use Rattle.units.proofs.HundredthsOfDegree.degrees_by_division.Goals as goal

pub returns : goal.returns
unfolding degrees_by_division round of_bits
returns c = refl
