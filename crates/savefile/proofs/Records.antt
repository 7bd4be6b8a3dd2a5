-- Laws of the records: the bound on their number is not felt, after a record that is there come the others, each lies inside the data and is the one that its
-- header states, and code's test of a record.
use Rattle.std.proofs.Common.{refl, sym, ap, ◌∙◌, subst, inl, inr, arith, lt_of_not-le, le-leb, ℕ, zero, suc, ◌+◌, ◌≤◌, ◌<◌, ◌≡◌, cond, List, [], ◌∷◌, leb, length, Some, None}
use Rattle.std.proofs.Math.Decide.{dec_le}
use Rattle.std.proofs.lemmas.Bool.{lt-leb}
use Rattle.std.specs.List.{AllByRecursion}
use Rattle.record_rule.specs.declared.Record.{Record}
use Rattle.record_rule.specs.Captured.{record_end}
use Rattle.record_rule.proofs.Inside.{Inside, Among}
use Rattle.savefile.specs.declared.RecordFormat.{RecordFormat}
use Rattle.savefile.specs.Savefile.{record_at, records_from}
use Rattle.savefile.specs.Headers.{recorded_at}

module _ (format : RecordFormat) (bytes : List ℕ) where
  pub past : (bound at : ℕ) → length bytes < record_end (record_at format bytes at) → records_from bound format bytes at ≡ []
  unfolding records_from
  past zero at h = refl
  past (suc bound) at h = rw (lt-leb (record_end (record_at format bytes at)) (length bytes) h)

  pub one_more : (bound at : ℕ) → let r = record_at format bytes at in Inside bytes r → records_from (suc bound) format bytes at ≡ r ∷ records_from bound format bytes (record_end r)
  unfolding records_from
  one_more bound at h = rw (le-leb (record_end (record_at format bytes at)) (length bytes) h)

  -- More than enough is as good as enough.
  pub enough : (b c at : ℕ) → length bytes ≤ at + b → length bytes ≤ at + c → records_from b format bytes at ≡ records_from c format bytes at
  unfolding records_from
  enough zero zero at h k = refl
  enough zero (suc c) at h k = sym (past (suc c) at (omega arith))
  enough (suc b) zero at h k = past (suc b) at (omega arith)
  enough (suc b) (suc c) at h k =
      let r = record_at format bytes at in
      ap (λ (t : List Record). cond (leb (record_end r) (length bytes)) (r ∷ t) []) (enough b c (record_end r) (omega arith) (omega arith))

  -- After a record that is there the walk goes on, with as large a bound.
  pub onward : (bound at : ℕ) → length bytes ≤ bound → let r = record_at format bytes at in Inside bytes r → records_from bound format bytes at ≡ r ∷ records_from bound format bytes (record_end r)
  onward zero at l h = absurd (omega arith)
  onward (suc b) at l h =
      let r = record_at format bytes at in
      one_more b at h ∙ ap (λ (t : List Record). r ∷ t) (enough b (suc b) (record_end r) (omega arith) (omega arith))

  -- Each lies inside the data.
  pub records_inside : (bound at : ℕ) → AllByRecursion (Inside bytes) (records_from bound format bytes at)
  unfolding records_from
  records_inside zero at = tt
  records_inside (suc bound) at =
      elim (dec_le (record_end (record_at format bytes at)) (length bytes)) [
        | yes h ↦ subst (AllByRecursion (Inside bytes)) (sym (one_more bound at h)) (h, records_inside bound (record_end (record_at format bytes at)))
        | no h ↦ subst (AllByRecursion (Inside bytes)) (sym (past (suc bound) at (lt_of_not-le h))) tt
      ]

  -- Each is the one that its own header states.
  pub stated : (bound at : ℕ) (r : Record) → Among r (records_from bound format bytes at) → r ≡ record_at format bytes r.header
  unfolding records_from
  stated zero at r m = absurd m
  stated (suc bound) at r m =
      elim (dec_le (record_end (record_at format bytes at)) (length bytes)) [
        | yes h ↦
            elim (subst (Among r) (one_more bound at h) m) [
              | inl e ↦ rw e
              | inr k ↦ stated bound (record_end (record_at format bytes at)) r k
            ]
        | no h ↦ absurd (subst (Among r) (past (suc bound) at (lt_of_not-le h)) m)
      ]

  pub few_records : (bound at : ℕ) → length (records_from bound format bytes at) ≤ bound
  unfolding records_from
  few_records zero at = omega arith
  few_records (suc bound) at =
      elim (dec_le (record_end (record_at format bytes at)) (length bytes)) [
        | yes h ↦ rw (one_more bound at h) (omega (arith, few_records bound (record_end (record_at format bytes at))))
        | no h ↦ rw (past (suc bound) at (lt_of_not-le h)) (omega arith)
      ]

-- ---- the record at a place, by code's test
module _ (format : RecordFormat) (bytes : List ℕ) (at : ℕ) where
  abbrev here : Record
  here = record_at format bytes at

  pub past_end : length bytes < record_end here → None ≡ recorded_at format bytes at
  unfolding recorded_at
  past_end h = rw (lt-leb (record_end here) (length bytes) h)

  pub whole : Inside bytes here → Some here ≡ recorded_at format bytes at
  unfolding recorded_at
  whole h = rw (le-leb (record_end here) (length bytes) h)

  -- and back
  pub is_past : recorded_at format bytes at ≡ None → length bytes < record_end here
  is_past e = lt_of_not-le (λ (h : record_end here ≤ length bytes). cc (whole h))

  pub is_whole : (r : Record) → recorded_at format bytes at ≡ Some r → (r ≡ here) × Inside bytes r
  is_whole r e =
      elim (dec_le (record_end here) (length bytes)) [
        | yes h ↦ let is : r ≡ here = cc (whole h) in (is, rw is h)
        | no h ↦ absurd (cc (past_end (lt_of_not-le h)))
      ]
