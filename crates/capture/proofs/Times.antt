-- A law that a promise rests on: the time that is told with a payload is the one that the header of its record states, for any reading and any port (`told`), by
-- rank and by step. Each record of the walk is the one that its own header states (`stated`), and a place takes header and time from its record. Without a payload
-- the time is 0, in microseconds.
use Rattle.std.proofs.Common.{refl, sym, ap, subst, inl, inr, arith, ℕ, ◌+◌, ◌≤◌, ◌≡◌, ◌⊎◌, List, length, Some}
use Rattle.std.specs.List.{AllByRecursion}
use Rattle.points.specs.ReadInto.{first_refusal}
use Rattle.record_rule.specs.declared.Record.{Record}
use Rattle.record_rule.specs.declared.reading.Reading.{Reading}
use Rattle.record_rule.specs.Captured.{record_end}
use Rattle.record_rule.specs.Time.{no_time}
use Rattle.record_rule.proofs.Inside.{Among, inside_of}
use Rattle.savefile.specs.declared.RecordFormat.{RecordFormat}
use Rattle.savefile.specs.Savefile.{time_at, record_at, all_records_from, format_of, checks}
use Rattle.savefile.proofs.Records.{records_inside, stated}
use Rattle.capture.specs.declared.walk.Cursor.{Cursor}
use Rattle.capture.specs.declared.walk.Place.{Place}
use Rattle.capture.specs.Payloads.{place_in, yields_in, yields_from, places_of, payloads, place_of, step_of}
use Rattle.capture.proofs.Handed.{NoneOfRank, all_of, yielded_inside, none_handed, none_or_one, of_step}

-- A payload stands in the record whose header is told with it, one of those from a place on, and its time is the one stated there.
pub record InRecord (format : RecordFormat) (bytes : List ℕ) (at : ℕ) (p : Place) : Type 0 where
  pub one : Among (record_at format bytes p.header) (all_records_from format bytes at)
  pub after : p.header + 16 ≤ p.start
  pub inside : p.start + p.len ≤ record_end (record_at format bytes p.header)
  pub time : p.time ≡ time_at format bytes p.header

module _ (reading : Reading) (port : ℕ) (format : RecordFormat) (bytes : List ℕ) (at : ℕ) where
  all_in_records : AllByRecursion (InRecord format bytes at) (places_of (yields_in reading port bytes (all_records_from format bytes at)))
  all_in_records =
      all_of reading port bytes (InRecord format bytes at) (all_records_from format bytes at)
      (λ r m part e.
      let is = stated format bytes (length bytes) at r m in
      let inside = inside_of bytes (all_records_from format bytes at) r (records_inside format bytes (length bytes) at) m in
      let k = yielded_inside reading port bytes r part inside e in
      let long = ap (λ (x : Record). x.len) is in
      subst (λ x. InRecord format bytes at (place_in x part)) (sym is) (record { one = subst (λ x. Among x (all_records_from format bytes at)) is m; after = omega arith; inside = omega arith; time = refl }))

-- There is no payload of that rank, and no time is told; or there is, and it stands in its record.
pub told : (reading : Reading) (port rank : ℕ) (bytes : List ℕ) → let p = place_of reading port rank bytes in
    (NoneOfRank (first_refusal (checks reading bytes)) (payloads reading port bytes) rank × (p.time ≡ no_time)) ⊎ InRecord (format_of reading bytes) bytes 24 p
unfolding place_of payloads yields_from
told reading port rank bytes =
    let number = first_refusal (checks reading bytes) in
    let format = format_of reading bytes in
    let places = payloads reading port bytes in
    elim (none_or_one number places rank (InRecord format bytes 24) (all_in_records reading port format bytes 24)) [
      | inl n ↦ inl (n, rw (none_handed number places rank n))
      | inr p ↦ inr p
    ]

-- So does the payload of a step.
pub told_by_step : (c : Cursor) (bytes : List ℕ) (p : Place) (next : Cursor) → step_of c bytes ≡ Some (p, next) → InRecord c.format bytes c.at p
unfolding yields_from
told_by_step c bytes p next = of_step (InRecord c.format bytes c.at) c bytes p next (all_in_records c.reading c.port c.format bytes c.at)
