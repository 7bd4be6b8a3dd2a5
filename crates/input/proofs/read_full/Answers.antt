-- Each read consumes the bytes that it puts after those read so far.
use Rattle.std.proofs.Common.{arith}
use Rattle.input.proofs.Consumed.{goes_on}
use Rattle.input.proofs.read_full.Goals as goal

pub loop-done-preserved : goal.loop-done-preserved
loop-done-preserved g c = record {
  within = omega arith;
  bytes = goes_on _ _ _ _ _ _ _ _ c.loop-done.invariant.within c.read-n.ensures.within c.loop-done.invariant.bytes c.read-n.ensures.bytes;
}
