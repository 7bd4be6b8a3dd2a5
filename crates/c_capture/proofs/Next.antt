-- The step from a place of the walk on, by what opening gives.
use Rattle.std.proofs.Common.{ne_eqb, ℕ, ◌≡◌, List, Option, Some, None, Result}
use Rattle.std.specs.Result.{result_ok}
use Rattle.answers.specs.declared.Refusal.{Refusal}
use Rattle.points.specs.ReadInto.{first_refusal}
use Rattle.record_rule.specs.declared.reading.Reading.{Reading}
use Rattle.capture.specs.declared.walk.Cursor.{Cursor}
use Rattle.capture.specs.declared.walk.Place.{Place}
use Rattle.savefile.specs.Savefile.{checks}
use Rattle.capture.specs.Payloads.{opening, of_opened, step_of}
use Rattle.capture.proofs.Opening.{walks, is_opened, is_refused}
use Rattle.c_capture.specs.Capture.{moved_on, step_from}

module _ (reading : Reading) (port : ℕ) (bytes : List ℕ) (at : ℕ) where
  pub refused : (opened : Result Cursor Refusal) → of_opened opened ≡ opening reading port bytes → result_ok opened ≡ None → None ≡ step_from reading port bytes at
  unfolding step_from
  refused opened e none = rw (ne_eqb (first_refusal (checks reading bytes)) 0 (is_refused reading port bytes opened e none))

  pub stepped : (opened : Result Cursor Refusal) (cursor moved : Cursor) (s : Option (Place × Cursor)) → of_opened opened ≡ opening reading port bytes → result_ok opened ≡ Some cursor → moved ≡ moved_on cursor at → s ≡ step_of moved bytes → s ≡ step_from reading port bytes at
  unfolding step_from
  stepped opened cursor moved s e is m t =
      let yes = walks reading port bytes cursor (is_opened reading port bytes opened cursor e is) in
      rw (yes.0, t, m, yes.1)
