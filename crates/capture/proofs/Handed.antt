-- Laws that a promise rests on: each payload lies inside the data and is not empty (`all_within`), so the part that is handed back is empty exactly if the
-- capture is refused or has no payload of that rank (`empty_if`, `empty_only_if`). They hold for any records that lie inside the data, wherever these come from,
-- for any number that the checks give, any reading and any port. Then the same of a savefile's records, and of a step.
use Rattle.std.proofs.Common.{refl, ap, subst, inl, inr, arith, zero-le, lt_of_not-le, length-take, length-drop, ne_eqb, ℕ, ◌+◌, ◌≤◌, ◌<◌, ◌≡◌, ◌⊎◌, Bool, true, false, cond, List, [], ◌∷◌, ◌++◌, eqb, length, get_or, slice_get, unwrap_or, Option, Some, None, Ok, Err}
use Rattle.std.specs.List.{AllByRecursion}
use Rattle.std.specs.Option.{UnwrapsOrElse}
use Rattle.std.proofs.Math.Decide.{dec_le, ℕ_discrete}
use Rattle.std.proofs.lemmas.Option.{unwrap_or-slice_get}
use Rattle.std.proofs.lemmas.List.{get_or_past}
use Rattle.std.proofs.lemmas.List.Elements.{All-get_or, All-from_recursion}
use mathlib.Core.List.{flat_map}
use Rattle.points.specs.ReadInto.{first_refusal}
use Rattle.record_rule.specs.declared.Record.{Record}
use Rattle.record_rule.specs.declared.reading.Reading.{Reading}
use Rattle.record_rule.specs.declared.rule.Part.{Part}
use Rattle.record_rule.specs.declared.time.TimeUnit.TheVariants.{Microseconds}
use Rattle.record_rule.specs.Captured.{record_bytes}
use Rattle.record_rule.specs.Record.{Verdict, verdict}
use Rattle.record_rule.proofs.Inside.{Inside, Among, inside_of, inside_length}
use Rattle.record_rule.proofs.Tests.{payload_inside}
use Rattle.savefile.specs.Savefile.{all_records_from, format_of, checks}
use Rattle.savefile.proofs.Records.{records_inside}
use Rattle.capture.specs.declared.walk.Cursor.{Cursor}
use Rattle.capture.specs.declared.walk.Place.{Place}
use Rattle.capture.specs.Payloads.{place_in, Yield, yield_at, yield_of, yields_in, yields_from, places_of, payloads, nowhere, handed_as, place_of, place_at, place_of_rank, bytes_at, yields_after, moved_to, step_to, step_of}

pub record Within (bytes : List ℕ) (p : Place) : Type 0 where
  pub inside : p.start + p.len ≤ length bytes
  pub some : 0 < p.len

-- ---- of any records inside the data
with_one : (P : Place → Type 0) (r : Record) (v : Verdict) (later : List Yield) → ((part : Part) → v ≡ Ok part → P (place_in r part)) → AllByRecursion P (places_of later)
    → AllByRecursion P (places_of (yield_at r v ++ later))
with_one P r (Err why) later k a = a
with_one P r (Ok part) later k a = (k part refl, a)

module _ (reading : Reading) (port : ℕ) (bytes : List ℕ) where
  -- A property that each payload has by the record that yields it.
  pub all_of : (P : Place → Type 0) (records : List Record)
      → ((r : Record) → Among r records → (part : Part) → verdict reading port (record_bytes bytes r) ≡ Ok part → P (place_in r part))
      → AllByRecursion P (places_of (yields_in reading port bytes records))
  unfolding flat_map yield_of
  all_of P [] k = tt
  all_of P (r ∷ records) k =
      with_one P r (verdict reading port (record_bytes bytes r)) (yields_in reading port bytes records) (k r (inl refl)) (all_of P records (λ x m. k x (inr m)))

  -- What a record yields lies in its captured bytes.
  pub yielded_inside : (r : Record) (part : Part) → Inside bytes r → verdict reading port (record_bytes bytes r) ≡ Ok part → (part.start + part.len ≤ r.len) × (0 < part.len)
  yielded_inside r part i e = rw (inside_length bytes r i) at (payload_inside reading port (record_bytes bytes r) part e)

  pub all_within : (records : List Record) → AllByRecursion (Inside bytes) records → AllByRecursion (Within bytes) (places_of (yields_in reading port bytes records))
  all_within records i = all_of (Within bytes) records (λ r m part e. let h = inside_of bytes records r i m in let k = yielded_inside r part h e in record { inside = omega arith; some = k.1 })

-- The number is what the checks give: 0 accepts, and any other refuses.
module _ (number : ℕ) (places : List Place) (rank : ℕ) where
  -- The capture is refused, or has no payload of that rank.
  abbrev pub NoneOfRank : Type 0
  NoneOfRank = (number ≡ 0 → ⊥) ⊎ (length places ≤ rank)

  pub accepted : number ≡ 0 → handed_as number places rank ≡ get_or places rank nowhere
  accepted e = rw e

  pub none_handed : NoneOfRank → handed_as number places rank ≡ nowhere
  none_handed (inl n) = rw (ne_eqb number 0 n)
  none_handed (inr h) = rw (get_or_past places rank nowhere h) (either (eqb number 0))
    where
      either : (b : Bool) → cond b nowhere nowhere ≡ nowhere
      either true = refl
      either false = refl

  -- Code's answer, where none is told as `nowhere`.
  pub handed : unwrap_or (place_at number places rank) nowhere ≡ handed_as number places rank
  handed = either (eqb number 0)
    where
      either : (b : Bool) → unwrap_or (cond b (slice_get places rank) None) nowhere ≡ cond b (get_or places rank nowhere) nowhere
      either true = unwrap_or-slice_get places rank nowhere
      either false = refl

  pub none_or_one : (P : Place → Type 0) → AllByRecursion P places → NoneOfRank ⊎ P (handed_as number places rank)
  none_or_one P all =
      elim (ℕ_discrete number 0) [
        | yes a ↦
            elim (dec_le (length places) rank) [
              | yes h ↦ inl (inr h)
              | no h ↦ inr (rw (accepted a) (All-get_or P places rank nowhere (lt_of_not-le h) (All-from_recursion P places all)))
            ]
        | no n ↦ inl (inl n)
      ]

module _ (reading : Reading) (port number rank : ℕ) (bytes : List ℕ) (records : List Record) (inside : AllByRecursion (Inside bytes) records) where
  abbrev pub places : List Place
  places = places_of (yields_in reading port bytes records)

  which : NoneOfRank number places rank ⊎ Within bytes (handed_as number places rank)
  which = none_or_one number places rank (Within bytes) (all_within reading port bytes records inside)

  pub place_inside : (handed_as number places rank).start + (handed_as number places rank).len ≤ length bytes
  place_inside =
      elim which [
        | inl n ↦ rw (none_handed number places rank n) zero-le
        | inr w ↦ w.inside
      ]

  pub empty_if : NoneOfRank number places rank → bytes_at bytes (handed_as number places rank) ≡ []
  empty_if n = rw (none_handed number places rank n)

  pub empty_only_if : bytes_at bytes (handed_as number places rank) ≡ [] → NoneOfRank number places rank
  empty_only_if e =
      elim which [
        | inl n ↦ n
        | inr w ↦ absurd (omega (arith, w.inside, w.some, simp (length-take, length-drop) at (ap length e)))
      ]

-- ---- of a savefile's records
module _ (reading : Reading) (port rank : ℕ) (bytes : List ℕ) where
  abbrev number : ℕ
  number = first_refusal (checks reading bytes)

  abbrev records : List Record
  records = all_records_from (format_of reading bytes) bytes 24

  lie_inside : AllByRecursion (Inside bytes) records
  lie_inside = records_inside (format_of reading bytes) bytes (length bytes) 24

  pub part_inside : (place_of reading port rank bytes).start + (place_of reading port rank bytes).len ≤ length bytes
  unfolding place_of payloads yields_from
  part_inside = place_inside reading port number rank bytes records lie_inside

  pub part_empty_if : NoneOfRank number (payloads reading port bytes) rank → bytes_at bytes (place_of reading port rank bytes) ≡ []
  unfolding place_of payloads yields_from
  part_empty_if = empty_if reading port number rank bytes records lie_inside

  pub part_empty_only_if : bytes_at bytes (place_of reading port rank bytes) ≡ [] → NoneOfRank number (payloads reading port bytes) rank
  unfolding place_of payloads yields_from
  part_empty_only_if = empty_only_if reading port number rank bytes records lie_inside

-- The place of a rank, where none is told as `nowhere`.
pub handed_of_rank : (reading : Reading) (port rank : ℕ) (bytes : List ℕ) → unwrap_or (place_of_rank reading port rank bytes) nowhere ≡ place_of reading port rank bytes
unfolding place_of place_of_rank
handed_of_rank reading port rank bytes = handed (first_refusal (checks reading bytes)) (payloads reading port bytes) rank

-- Code's answer, where the default is told for none.
abbrev IsDefault : Place → Type 0
IsDefault p = (p.header ≡ 0) × ((p.start ≡ 0) × ((p.len ≡ 0) × ((p.time.seconds ≡ 0) × ((p.time.fraction ≡ 0) × (p.time.unit ≡ Microseconds)))))

pub by_default : (found : Option Place) (place : Place) → UnwrapsOrElse found IsDefault place → place ≡ unwrap_or found nowhere
by_default None place e = rw (e.0, e.1.0, e.1.1.0, e.1.1.1.0, e.1.1.1.1.0, e.1.1.1.1.1)
by_default (Some p) place e = e

-- ---- of a step
pub of_step : (P : Place → Type 0) (c : Cursor) (bytes : List ℕ) (p : Place) (next : Cursor) → AllByRecursion P (places_of (yields_after c bytes)) → step_of c bytes ≡ Some (p, next) → P p
unfolding step_of
of_step P c bytes p next all e = go (yields_after c bytes) all e
  where
    go : (l : List Yield) → AllByRecursion P (places_of l) → step_to c l ≡ Some (p, next) → P p
    go [] a q = absurd (cc)
    go (y ∷ l) a q =
        let both : ◌≡◌ {A = Place × Cursor} (y.place, moved_to c y.next) (p, next) = cc q in
        subst P (ap (λ (x : Place × Cursor). x.0) both) a.0

pub step_within : (c : Cursor) (bytes : List ℕ) (p : Place) (next : Cursor) → step_of c bytes ≡ Some (p, next) → Within bytes p
unfolding yields_from
step_within c bytes p next = of_step (Within bytes) c bytes p next (all_within c.reading c.port bytes (all_records_from c.format bytes c.at) (records_inside c.format bytes (length bytes) c.at))
