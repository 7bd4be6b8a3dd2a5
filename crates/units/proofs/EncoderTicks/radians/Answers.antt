-- `units::EncoderTicks::radians` meets its contract: the literals' bits are 90112.0 and 0x40C90FDB.
use Rattle.std.specs.Float.Ieee.{round, of_bits}
use Rattle.units.specs.Conversions.{radians_of_ticks}
use Rattle.units.proofs.EncoderTicks.radians.Goals as goal

pub returns : goal.returns
unfolding radians_of_ticks round of_bits
returns c = rw c.u32_to_f32.ensures
