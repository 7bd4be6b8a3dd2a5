-- The loop's invariant: the rank and the places that are left are no more than the data has bytes, so that the rank fits.
use Rattle.std.proofs.Common.{◌+◌, ◌≤◌, length}
use Rattle.capture.specs.Walked.{places_left}
use Rattle.replay.proofs.show_payloads.Given as goal

abbrev pub invariant-loop-rank : goal.invariant-loop-rank
invariant-loop-rank g l = l.rank-iterator.count + length (places_left l.rank-iterator.iter) ≤ length l.«data»
