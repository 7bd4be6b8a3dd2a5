-- `placing_in_file::place_in_file` meets its contract: what is placed is the answer of `stored_reading`, case by case (`answered`).
use Rattle.std.proofs.Common.{Ok, Err}
use Rattle.answers.proofs.Passed.{passed_on}
use Rattle.placing_in_file.proofs.Ranked.{answered}
use Rattle.placing_in_file.proofs.place_in_file.Goals as goal

pub returns-in_err-reading-clause-placed : goal.returns-in_err-reading-clause-placed
returns-in_err-reading-clause-placed c =
    (answered _ _ _ _ _ _ (Err c.in_err-reading.field-0.0) c.in_err-reading.ensures (rw (passed_on c.from_residual.ensures))).0

pub returns-in_err-reading-clause-accurate : goal.returns-in_err-reading-clause-accurate
returns-in_err-reading-clause-accurate c =
    (answered _ _ _ _ _ _ (Err c.in_err-reading.field-0.0) c.in_err-reading.ensures (rw (passed_on c.from_residual.ensures))).1

pub returns-clause-placed : goal.returns-clause-placed
returns-clause-placed c = (answered _ _ _ _ _ _ (Ok c.in_ok-reading.reading) c.in_ok-reading.ensures c.place.ensures.placed).0

pub returns-clause-accurate : goal.returns-clause-accurate
returns-clause-accurate c = (answered _ _ _ _ _ _ (Ok c.in_ok-reading.reading) c.in_ok-reading.ensures c.place.ensures.placed).1
