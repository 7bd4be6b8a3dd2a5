-- Two digits make a byte, and past the last two nothing is left.
use Rattle.std.proofs.Common.{rules, ◌∙◌, ◌<◌, length, arith}
use Rattle.case_words.proofs.Hex.{alone, stored, left_over}
use Rattle.case_words.proofs.lay_hex.Goals as goal

pub loop-i-preserved-then-pair-lt2 : goal.loop-i-preserved-then-pair-lt2
loop-i-preserved-then-pair-lt2 c =
    let steps = c.in-Some.ensures.steps in
    let one : length c.in-Some.pair.now < 2 = search rules in
    record {
      pairs = steps.0.0 ∙ c.loop-i.invariant.pairs;
      laid = left_over _ _ _ _ _ _ _ _ steps.0.1.0 steps.2 c.loop-i.invariant.laid one (rw c.loop-i.invariant.pairs at steps.0.1.1);
    }

pub loop-i-preserved-then-pair-lt3 : goal.loop-i-preserved-then-pair-lt3
loop-i-preserved-then-pair-lt3 c =
    let steps = c.in-Some.ensures.steps in
    record {
      pairs = steps.0.0 ∙ c.loop-i.invariant.pairs;
      laid = stored _ _ _ _ _ _ _ _ steps.0.1.0 steps.2 c.loop-i.invariant.laid c.in-len2.len_at_least c.in-len2.len_below c.byte.ensures (rw steps.1 at c.put.ensures);
    }

pub returns : goal.returns
returns c =
    let steps = c.in-None.ensures.steps in
    let short : length c.loop-i.i-iterator.iter.rest.now < 2 = omega (arith, steps.0.1.0) in
    rw (alone _ short) at c.loop-i.invariant.laid
