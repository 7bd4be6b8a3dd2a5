-- Demand 3 of what a caller in C receives: it is what was placed, since no refusal has the number 0 (`each_case`).
use Rattle.std.proofs.Common.{Option, ℕ, ◌≡◌, refl, sym, ap, subst, ◌∙◌, Float}
use Rattle.points.proofs.ReadInto.{Numbered}
use Rattle.livox_stored.specs.Stored.{Stored}
use Rattle.placing.specs.Placing.{Asked, place}
use Rattle.placing.specs.Accuracy.{Accurate, seen_at}
use Rattle.placing.proofs.Accuracy.{accurate}
use Rattle.placing.proofs.Checks.{each_case}
use Rattle.c_placing.specs.Placed.{received, tell_placed}

module _ (asked : Asked) (numbered : Numbered asked.checks) (reading : Option Stored) (seen-is : asked.micrometres ≡ seen_at reading) (count datum pulse_length : ℕ) (before : Float) where
  received_is : received (tell_placed (place asked count datum pulse_length) before) ≡ place asked count datum pulse_length
  received_is = each_case asked count datum pulse_length (λ placement. received (tell_placed placement before) ≡ placement) (λ x. refl) (λ r. refl)

  -- What both contracts of a placing for C say, from the first.
  pub both : {answer : ℕ × Float} → answer ≡ tell_placed (place asked count datum pulse_length) before
      → (answer ≡ tell_placed (place asked count datum pulse_length) before) × Accurate asked.checks reading count datum pulse_length (received answer)
  both e = (e, subst (Accurate asked.checks reading count datum pulse_length) (sym (ap received e ∙ received_is)) (accurate asked numbered reading seen-is count datum pulse_length))
