-- The bytes of hexadecimal digits by the pairs of them, and the place and bytes of a word.
use Rattle.std.proofs.Common.{ℕ, suc, ◌+◌, ◌<◌, ◌≤◌, ◌≡◌, refl, ◌∙◌, ap, List, [], ◌∷◌, ◌++◌, length, take, drop, get_or, set, min, arith, add-one, length-append}
use Rattle.std.proofs.lemmas.List.{drop-drop, nil_from_length}
use Rattle.std.proofs.lemmas.List.Edits.{sets}
use Rattle.case_words.specs.Words.{index_of, byte_of, bytes_of, laid, decimal_value}

-- The first two digits are those of the first byte.
pair_first : (pair rest : List ℕ) → 2 ≤ length pair → length pair < 3 → bytes_of (pair ++ rest) ≡ byte_of (get_or pair 0 0) (get_or pair 1 0) ∷ bytes_of rest
unfolding bytes_of
pair_first [] rest h k = absurd (omega arith)
pair_first (high ∷ []) rest h k = absurd (omega arith)
pair_first (high ∷ low ∷ []) rest h k = refl
pair_first (high ∷ low ∷ more ∷ pair) rest h k = absurd (omega arith)

-- A digit alone is none.
pub alone : (digits : List ℕ) → length digits < 2 → bytes_of digits ≡ []
unfolding bytes_of
alone [] short = refl
alone (high ∷ []) short = refl
alone (high ∷ low ∷ digits) short = absurd (omega arith)

module _ (at i i' : ℕ) (bytes whole digits rest : List ℕ) (pair : List ℕ) (cut : digits ≡ pair ++ rest) (next : i' ≡ i + 1) (is : sets bytes (at + i) (bytes_of digits) ≡ whole) where
  -- The byte of two digits is stored, and those after it are left.
  pub stored : 2 ≤ length pair → length pair < 3 → {byte : ℕ} {bytes' : List ℕ} → byte ≡ byte_of (get_or pair 0 0) (get_or pair 1 0) → bytes' ≡ set bytes (at + i) byte → sets bytes' (at + i') (bytes_of rest) ≡ whole
  stored two no_more byte_is put =
      let past : at + i' ≡ suc (at + i) = omega arith in
      rw (put, byte_is, past) (rw (cut, pair_first pair rest two no_more) at is)

  -- A digit that is left over is none of a byte.
  pub left_over : length pair < 2 → length pair ≡ min 2 (length digits) → sets bytes (at + i') (bytes_of rest) ≡ whole
  left_over one len =
      let long : length digits ≡ length pair + length rest = ap (λ d. length d) cut ∙ length-append pair rest in
      let none : rest ≡ [] = nil_from_length rest (omega arith) in
      rw (none, alone [] (omega arith)) (rw (alone digits (omega arith)) at is)

pub marked : (word bytes : List ℕ) → sets bytes (decimal_value (take (index_of 61 word) word)) (bytes_of (drop 1 (drop (index_of 61 word) word))) ≡ laid bytes word
unfolding laid
marked word bytes = rw (drop-drop, add-one) refl
