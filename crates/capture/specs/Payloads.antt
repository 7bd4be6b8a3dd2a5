-- The payloads of a capture, in order, each with its place and its time.
use Rattle.std.specs.Prelude.{ℕ, ◌+◌, ◌≡◌, cond, eqb, take, drop, get_or, slice_get, List, [], ◌∷◌, map, Option, Some, None, Result, Ok, Err}
use mathlib.Core.List.{flat_map}
use Rattle.answers.specs.declared.Refusal.{Refusal}
use Rattle.answers.specs.Answer.{refusal_number}
use Rattle.points.specs.ReadInto.{first_refusal}
use Rattle.record_rule.specs.declared.Record.{Record}
use Rattle.record_rule.specs.declared.reading.Reading.{Reading}
use Rattle.record_rule.specs.declared.rule.Part.{Part}
use Rattle.capture.specs.declared.walk.Cursor.{Cursor}
use Rattle.capture.specs.declared.walk.Place.{Place}
use Rattle.record_rule.specs.Captured.{record_bytes, record_end}
use Rattle.record_rule.specs.Record.{Verdict, verdict}
use Rattle.record_rule.specs.Time.{no_time}
use Rattle.savefile.specs.declared.RecordFormat.{RecordFormat}
use Rattle.savefile.specs.Savefile.{records_from, all_records_from, format_of, checks}

-- The place of a payload, by the part of its record that it is. Its time is the record's.
abbrev pub place_in : Record → Part → Place
place_in r part = record { header = r.header; start = r.body + part.start; len = part.len; time = r.time }

-- What a record yields: a payload, and where the walk goes on after the record.
pub record Yield : Type 0 where
  pub place : Place
  pub next : ℕ

-- A record that is passed over yields none.
abbrev pub yield_at : Record → Verdict → List Yield
yield_at r (Err why) = []
yield_at r (Ok part) = record { place = place_in r part; next = record_end r } ∷ []

unfoldable pub yield_of : Reading → ℕ → List ℕ → Record → List Yield
yield_of reading port bytes r = yield_at r (verdict reading port (record_bytes bytes r))

-- What some records yield, in order, and the places of the payloads.
abbrev pub yields_in : Reading → ℕ → List ℕ → List Record → List Yield
yields_in reading port bytes records = flat_map (yield_of reading port bytes) records

abbrev pub places_of : List Yield → List Place
places_of yields = map (λ (y : Yield). y.place) yields

-- What the records from a place on yield.
unfoldable pub yields_from : Reading → RecordFormat → ℕ → List ℕ → ℕ → List Yield
unfolding yield_of records_from flat_map
yields_from reading format port bytes at = yields_in reading port bytes (all_records_from format bytes at)

-- The places of the payloads on a port, in order; port 0 asks for every port. It is what an accepted capture means: the
-- checks are not looked at here, but in `opening` and `place_of`.
unfoldable pub payloads : Reading → ℕ → List ℕ → List Place
unfolding yields_from
payloads reading port bytes = places_of (yields_from reading (format_of reading bytes) port bytes 24)

-- No place, and no time: a payload never starts at 0.
abbrev pub nowhere : Place
nowhere = record { header = 0; start = 0; len = 0; time = no_time }

-- What a number means for the place of a rank among some places: 0, that it is told; a refusal tells `nowhere`.
abbrev pub handed_as : ℕ → List Place → ℕ → Place
handed_as number places rank = cond (eqb number 0) (get_or places rank nowhere) nowhere

-- The place of the payload of a rank, counted from 0: `nowhere` exactly if the capture is refused or has no payload of
-- that rank.
unfoldable pub place_of : Reading → ℕ → ℕ → List ℕ → Place
unfolding payloads
place_of reading port rank bytes = handed_as (first_refusal (checks reading bytes)) (payloads reading port bytes) rank

-- The same place where there is one, and else none. With `nowhere` for none it is `place_of` (`handed_of_rank`).
abbrev pub place_at : ℕ → List Place → ℕ → Option Place
place_at number places rank = cond (eqb number 0) (slice_get places rank) None

unfoldable pub place_of_rank : Reading → ℕ → ℕ → List ℕ → Option Place
unfolding payloads
place_of_rank reading port rank bytes = place_at (first_refusal (checks reading bytes)) (payloads reading port bytes) rank

-- The bytes at a place.
abbrev pub bytes_at : List ℕ → Place → List ℕ
bytes_at bytes p = take p.len (drop p.start bytes)

-- A pointer into the same memory as another, start bytes further on, as a block and an offset in it. How long the part
-- is, `bytes_at` tells.
abbrev pub PartAt : ℕ → ℕ × ℕ → ℕ × ℕ → Type 0
PartAt start whole part = (part.0 ≡ whole.0) × (part.1 ≡ start + whole.1)

-- ---- the walk by steps

-- The cursor after the file header.
abbrev pub start_cursor : Reading → ℕ → List ℕ → Cursor
start_cursor reading port bytes = record { at = 24; port = port; reading = reading; format = format_of reading bytes }

-- A cursor at another place.
abbrev pub moved_to : Cursor → ℕ → Cursor
moved_to cursor at = record { at = at; port = cursor.port; reading = cursor.reading; format = cursor.format }

-- What the records from a cursor on yield, and the places of the payloads. Port, reading and the records' format are the
-- cursor's: the file header is not looked at again.
abbrev pub yields_after : Cursor → List ℕ → List Yield
yields_after cursor bytes = yields_from cursor.reading cursor.format cursor.port bytes cursor.at

unfoldable pub places_from : Cursor → List ℕ → List Place
unfolding yields_from
places_from cursor bytes = places_of (yields_after cursor bytes)

-- Opening a capture gives a number and, where that is 0, the cursor after the file header.
unfoldable pub opening : Reading → ℕ → List ℕ → ℕ × List Cursor
opening reading port bytes =
    let n = first_refusal (checks reading bytes) in
    (n, cond (eqb n 0) (start_cursor reading port bytes ∷ []) [])

-- What code's answer to opening stands for.
abbrev pub of_opened : Result Cursor Refusal → ℕ × List Cursor
of_opened (Ok cursor) = (0, cursor ∷ [])
of_opened (Err refusal) = (refusal_number refusal, [])

-- A step gives the first payload from the cursor on, and the cursor after its record, where there is one.
abbrev pub step_to : Cursor → List Yield → Option (Place × Cursor)
step_to cursor [] = None
step_to cursor (first ∷ later) = Some (first.place, moved_to cursor first.next)

unfoldable pub step_of : Cursor → List ℕ → Option (Place × Cursor)
unfolding yields_from
step_of cursor bytes = step_to cursor (yields_after cursor bytes)
