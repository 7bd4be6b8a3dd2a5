-- What the C forms of the capture's calls give back, each as one value.
use Rattle.std.specs.Prelude.{ℕ, Bool, true, false, cond, List, ltb, eqb, Option, Some, None}
use Rattle.points.specs.ReadInto.{first_refusal}
use Rattle.record_rule.specs.declared.reading.Reading.{Reading}
use Rattle.record_rule.specs.Time.{time_numbers}
use Rattle.capture.specs.declared.walk.Cursor.{Cursor}
use Rattle.capture.specs.declared.walk.Place.{Place}
use Rattle.savefile.specs.Savefile.{checks}
use Rattle.capture.specs.Payloads.{nowhere, place_of, start_cursor, moved_to, step_of}

-- What is told of a payload: its start, its length, and the numbers of its time.
pub data PayloadTold : Type 0 where
  payload_told : ℕ → ℕ → ℕ × ℕ × ℕ → PayloadTold

abbrev pub tell_payload : Place → PayloadTold
tell_payload p = payload_told p.start p.len (time_numbers p.time)

-- The number that the capture's checks give, and what is told of the payload of a rank, which is all 0 where there is
-- none.
unfoldable pub tell_place : Reading → ℕ → ℕ → List ℕ → ℕ × PayloadTold
tell_place reading port rank bytes = (first_refusal (checks reading bytes), tell_payload (place_of reading port rank bytes))

-- A cursor moved on to a place. A place before the cursor's, such as 0, stands for the cursor's.
abbrev pub moved_on : Cursor → ℕ → Cursor
moved_on cursor at = moved_to cursor (cond (ltb at cursor.at) cursor.at at)

-- The step from a place of the walk on. A capture that is refused has none.
unfoldable pub step_from : Reading → ℕ → List ℕ → ℕ → Option (Place × Cursor)
step_from reading port bytes at =
    cond (eqb (first_refusal (checks reading bytes)) 0) (step_of (moved_on (start_cursor reading port bytes) at) bytes) None

-- Whether there is a next payload, where the walk then stands, and the payload. Without one the walk stays where it is.
abbrev pub tell_step : ℕ → Option (Place × Cursor) → Bool × ℕ × PayloadTold
tell_step at None = (false, at, tell_payload nowhere)
tell_step at (Some (place, next)) = (true, next.at, tell_payload place)

unfoldable pub tell_next : Reading → ℕ → List ℕ → ℕ → Bool × ℕ × PayloadTold
unfolding step_from
tell_next reading port bytes at = tell_step at (step_from reading port bytes at)
