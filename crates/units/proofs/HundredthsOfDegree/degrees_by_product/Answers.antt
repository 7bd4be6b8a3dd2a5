-- `units::HundredthsOfDegree::degrees_by_product` meets its contract: the literal's bits are 0.01, rounded.
use Rattle.std.proofs.Common.{refl}
use Rattle.std.specs.Float.Ieee.{round, of_bits}
use Rattle.units.specs.Conversions.{degrees_by_product}
use Rattle.units.proofs.HundredthsOfDegree.degrees_by_product.Goals as goal

pub returns : goal.returns
unfolding degrees_by_product round of_bits
returns c = refl
