-- `c_capture::number_of` meets its contract: opening gives the number of the first check that applies.
use Rattle.std.proofs.Common.{ℕ, ap, ◌∙◌, ◌≡◌, List, refl, Result, Ok, Err}
use Rattle.answers.specs.declared.Refusal.{Refusal}
use Rattle.answers.specs.Answer.{number_of}
use Rattle.capture.specs.declared.walk.Cursor.{Cursor}
use Rattle.capture.specs.Payloads.{opening, of_opened}
use Rattle.c_capture.proofs.number_of.Goals as goal

told : (opened : Result Cursor Refusal) → number_of opened ≡ (of_opened opened).0
told (Ok cursor) = refl
told (Err refusal) = refl

pub returns : goal.returns
unfolding opening
returns c = c.number_of.ensures ∙ told _ ∙ ap (λ (opened : ℕ × List Cursor). opened.0) c.open_as.ensures
