-- The file header, case by case: the checks of its length, then what the magic says (`by_magic`).
use Rattle.std.proofs.Common.{sym, ap, ◌∙◌, lt-ltb, le-ltb, ne_eqb, ℕ, ◌≤◌, ◌<◌, ◌≡◌, cond, not, ◌||◌, List, [], ◌∷◌, eqb, length}
use Rattle.fields.specs.declared.ByteOrder.TheVariants.{Little, Big}
use Rattle.fields.specs.Number.{big, unsigned_at}
use Rattle.points.specs.ReadInto.{first_refusal}
use Rattle.record_rule.specs.declared.reading.Reading.{Reading}
use Rattle.record_rule.specs.declared.time.TimeUnit.TheVariants.{Microseconds, Nanoseconds}
use Rattle.savefile.specs.declared.RecordFormat.{RecordFormat}
use Rattle.savefile.specs.Savefile.{least_first_magic, most_first_magic, nanosecond_magic, unit_of, format_by, format_of, file_checks, checks}
use Rattle.savefile.specs.Headers.{file_header}

-- What the magic says, which for each of the four computes.
abbrev answer_to : Reading → ℕ → ℕ × List RecordFormat
answer_to reading magic =
    let least_first = eqb magic 0xd4c3b2a1 || eqb magic 0x4d3cb2a1 in
    let most_first = eqb magic 0xa1b2c3d4 || eqb magic 0xa1b23c4d in
    let nanoseconds = eqb magic 0x4d3cb2a1 || eqb magic 0xa1b23c4d in
    let n : ℕ = cond (not (least_first || most_first)) 4 0 in
    (n, cond (eqb n 0) (format_by reading (cond least_first Little Big) (cond nanoseconds Nanoseconds Microseconds) ∷ []) [])

module _ (reading : Reading) (bytes : List ℕ) where
  -- What an answer says of the records.
  pub format_told : (told : RecordFormat) → (0, told ∷ []) ≡ file_header reading bytes → told ≡ format_of reading bytes
  unfolding file_header
  format_told told e =
      let none : first_refusal (checks reading bytes) ≡ 0 = sym (ap (λ (x : ℕ × List RecordFormat). x.0) e) in
      let one : told ∷ [] ≡ format_of reading bytes ∷ [] = ap (λ (x : ℕ × List RecordFormat). x.1) e ∙ rw none in
      cc

  pub too_long : 2147483647 < length bytes → (1, []) ≡ file_header reading bytes
  unfolding file_header first_refusal checks file_checks
  too_long h = rw (lt-ltb 2147483647 (length bytes) h)

  module _ (a : length bytes ≤ 2147483647) where
    pub too_short : length bytes < 24 → (3, []) ≡ file_header reading bytes
    unfolding file_header first_refusal checks file_checks
    too_short h = rw (le-ltb 2147483647 (length bytes) a, lt-ltb (length bytes) 24 h)

    -- From 24 bytes on the magic decides.
    module _ (b : 24 ≤ length bytes) where
      pub by_magic : (magic : ℕ) → magic ≡ unsigned_at big 4 bytes 0 → answer_to reading magic ≡ file_header reading bytes
      unfolding file_header first_refusal checks file_checks format_of least_first_magic most_first_magic nanosecond_magic unit_of
      by_magic magic e = rw (le-ltb 2147483647 (length bytes) a, le-ltb (length bytes) 24 b, ← e)

      pub wrong_mark : (magic : ℕ) → magic ≡ unsigned_at big 4 bytes 0 → (magic ≡ 0xd4c3b2a1 → ⊥) → (magic ≡ 0x4d3cb2a1 → ⊥) → (magic ≡ 0xa1b2c3d4 → ⊥) → (magic ≡ 0xa1b23c4d → ⊥)
          → (4, []) ≡ file_header reading bytes
      wrong_mark magic e i j k l = rw (ne_eqb magic 0xd4c3b2a1 i, ne_eqb magic 0x4d3cb2a1 j, ne_eqb magic 0xa1b2c3d4 k, ne_eqb magic 0xa1b23c4d l) at (by_magic magic e)
