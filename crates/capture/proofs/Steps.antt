-- The walk by steps. After the record of a payload the walk has exactly the later payloads, and is further on (`after`), so going from cursor to cursor yields
-- the payloads in order (`step_end`, `step_payload`).
use Rattle.std.proofs.Common.{refl, sym, ap, ◌∙◌, arith, lt_of_not-le, ℕ, zero, suc, ◌+◌, ◌≤◌, ◌<◌, ◌≡◌, List, [], ◌∷◌, ◌++◌, length, Some, None, Ok, Err}
use Rattle.std.proofs.Math.Decide.{dec_le}
use mathlib.Core.List.{flat_map}
use Rattle.record_rule.specs.declared.Record.{Record}
use Rattle.record_rule.specs.declared.reading.Reading.{Reading}
use Rattle.record_rule.specs.Captured.{record_bytes, record_end}
use Rattle.record_rule.specs.Record.{Verdict, verdict}
use Rattle.savefile.specs.declared.RecordFormat.{RecordFormat}
use Rattle.savefile.specs.Savefile.{record_at, records_from}
use Rattle.savefile.proofs.Records.{past, one_more, enough}
use Rattle.capture.specs.declared.walk.Cursor.{Cursor}
use Rattle.capture.specs.declared.walk.Place.{Place}
use Rattle.capture.specs.Payloads.{Yield, yield_at, yield_of, yields_in, yields_from, places_of, moved_to, yields_after, places_from, step_to, step_of}

module _ (reading : Reading) (format : RecordFormat) (port : ℕ) (bytes : List ℕ) where
  abbrev yields : ℕ → ℕ → List Yield
  yields b at = yields_in reading port bytes (records_from b format bytes at)

  -- What is left after the first payload from a place on.
  abbrev After : ℕ → Yield → List Yield → Type 0
  After at y later = (at < y.next) × (later ≡ yields_from reading format port bytes y.next)

  all_of_them : (b at : ℕ) → length bytes ≤ at + b → yields b at ≡ yields_from reading format port bytes at
  unfolding yields_from
  all_of_them b at h = rw (enough format bytes b (length bytes) at h (omega arith))

  first : (at : ℕ) (r : Record) (v : Verdict) (rest later : List Yield) (y : Yield) → at < record_end r → yield_at r v ++ rest ≡ y ∷ later → (rest ≡ y ∷ later → After (record_end r) y later)
      → rest ≡ yields_from reading format port bytes (record_end r) → After at y later
  first at r (Err why) rest later y h e go here = let on = go e in (omega arith, on.1)
  first at r (Ok part) rest later y h e go here =
      let next : record_end r ≡ y.next = cc in
      let same : rest ≡ later = cc in
      (omega arith, sym same ∙ here ∙ ap (yields_from reading format port bytes) next)

  after_first : (b at : ℕ) (y : Yield) (later : List Yield) → length bytes ≤ at + b → yields b at ≡ y ∷ later → After at y later
  unfolding records_from flat_map yield_of
  after_first zero at y later h e = absurd (cc)
  after_first (suc b) at y later h e =
      let r = record_at format bytes at in
      elim (dec_le (record_end r) (length bytes)) [
        | yes k ↦
            first at r (verdict reading port (record_bytes bytes r)) (yields b (record_end r)) later y (omega arith) (rw (one_more format bytes b at k) at e)
            (λ q. after_first b (record_end r) y later (omega arith) q) (all_of_them b (record_end r) (omega arith))
        | no k ↦ let none = rw (past format bytes (suc b) at (lt_of_not-le k)) at e in absurd (cc)
      ]

  pub after : (at : ℕ) (y : Yield) (later : List Yield) → yields_from reading format port bytes at ≡ y ∷ later → After at y later
  unfolding yields_from
  after at y later e = after_first (length bytes) at y later (omega arith) e

-- ---- from cursor to cursor
module _ (c : Cursor) (bytes : List ℕ) where
  pub step_end : step_of c bytes ≡ None → places_from c bytes ≡ []
  unfolding step_of places_from
  step_end e = go (yields_after c bytes) e
    where
      go : (l : List Yield) → step_to c l ≡ None → places_of l ≡ []
      go [] q = refl
      go (y ∷ l) q = absurd (cc)

  -- A step takes the first payload off the front. The next cursor differs in its place alone, which is further on.
  abbrev Stepped : List Yield → Place → Cursor → Type 0
  Stepped l p next = (places_of l ≡ p ∷ places_of (yields_after next bytes)) × (c.at < next.at) × (next ≡ moved_to c next.at)

  stepped : (p : Place) (next : Cursor) → step_of c bytes ≡ Some (p, next) → Stepped (yields_after c bytes) p next
  unfolding step_of
  stepped p next e = go (yields_after c bytes) refl e
    where
      go : (l : List Yield) → yields_after c bytes ≡ l → step_to c l ≡ Some (p, next) → Stepped l p next
      go [] q s = absurd (cc)
      go (y ∷ l) q s =
          let rest = after c.reading c.format c.port bytes c.at y l q in
          let both : ◌≡◌ {A = Place × Cursor} (y.place, moved_to c y.next) (p, next) = cc s in
          let is : moved_to c y.next ≡ next = ap (λ (x : Place × Cursor). x.1) both in
          let head : y.place ≡ p = ap (λ (x : Place × Cursor). x.0) both in
          rw (head, ← is) (rw rest.1 refl, rest.0, refl)

  pub step_payload : (p : Place) (next : Cursor) → step_of c bytes ≡ Some (p, next) → places_from c bytes ≡ p ∷ places_from next bytes
  unfolding places_from
  step_payload p next e = (stepped p next e).0

  pub step_on : (p : Place) (next : Cursor) → step_of c bytes ≡ Some (p, next) → (c.at < next.at) × (next ≡ moved_to c next.at)
  step_on p next e = ((stepped p next e).1, (stepped p next e).2)
