-- `c_placing::tell_place` meets its contract: demand 3 follows from what is told (`both`).
use Rattle.std.proofs.Common.{Some, ap, ◌∙◌}
use Rattle.livox_stored.specs.Stored.{of_stored_reading}
use Rattle.placing.specs.Placing.{by_reading}
use Rattle.placing.proofs.Accuracy.{seen}
use Rattle.c_placing.specs.Placed.{tell_placed}
use Rattle.c_placing.proofs.Received.{both}
use Rattle.c_placing.proofs.tell_place.Goals as goal

pub returns-clause-accurate : goal.returns-clause-accurate
returns-clause-accurate c =
    let reading = of_stored_reading c.args.reading in
    (both (by_reading reading) tt (Some reading) (seen reading) _ _ _ _ (c.tell.ensures ∙ ap (λ p. tell_placed p c.args.metres.now) c.place.ensures.placed)).1
