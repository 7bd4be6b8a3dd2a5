-- The first piece of a text reaches to the first byte that ends one, and the other pieces are those of what follows it.
use Rattle.std.proofs.Common.{ℕ, suc, ◌≤◌, ◌≡◌, ◌≢◌, refl, Bool, true, false, List, [], ◌∷◌, length, take, drop, get_or, ap, ◌∙◌, add-one, one-add, ltb-false, arith, ◌==◌, not, nat_lt, Option, Some, None, slice_get, unwrap_or, option_map, position, Bor}
use Rattle.std.specs.List.{position_or_len}
use Rattle.std.proofs.lemmas.List.{drop-drop}
use Rattle.std.proofs.lemmas.List.Sums.{prefix_len-le-length}
use Rattle.std.proofs.lemmas.Option.{unwrap_or-slice_get}
use Rattle.case_words.specs.Words.{index_of, joined, pieces_of}

-- The pieces of a text that starts with b, by whether b ends one.
by_first : (end : ℕ) (text : List ℕ) (b : ℕ) (is_end : Bool) → (b == end) ≡ is_end → pieces_of end (b ∷ text) ≡ take (index_of end (b ∷ text)) (b ∷ text) ∷ pieces_of end (drop (suc (index_of end (b ∷ text))) (b ∷ text))
unfolding pieces_of joined
by_first end [] b true e = rw e refl
by_first end [] b false e = rw e refl
by_first end (b' ∷ text) b true e = rw e refl
by_first end (b' ∷ text) b false e = rw (e, by_first end text b' (b' == end) refl) (simp one-add refl)

pub of_none : (end : ℕ) (text : List ℕ) → length text ≡ 0 → pieces_of end text ≡ []
unfolding pieces_of
of_none end [] e = refl
of_none end (b ∷ text) e = absurd (omega arith)

-- As code has it: what follows the first byte of the rest.
pub of_some : (end : ℕ) (text : List ℕ) → length text ≢ 0 → pieces_of end text ≡ take (index_of end text) text ∷ pieces_of end (drop 1 (drop (index_of end text) text))
of_some end [] e = absurd (e refl)
of_some end (b ∷ text) e = rw (drop-drop, add-one) (by_first end text b (b == end) refl)

-- The first place that passes; where there is none, the length.
pub or_len : (p : ℕ → Bool) (xs : List ℕ) → unwrap_or (position p xs) (length xs) ≡ position_or_len p xs
or_len p xs = by_test (nat_lt (position_or_len p xs) (length xs)) refl where
  by_test : (b : Bool) → nat_lt (position_or_len p xs) (length xs) ≡ b → unwrap_or (position p xs) (length xs) ≡ position_or_len p xs
  by_test true e = rw e refl
  by_test false e = rw e (let over : length xs ≤ position_or_len p xs = ltb-false (position_or_len p xs) (length xs) e in let is : length xs ≡ position_or_len p xs = omega (arith, prefix_len-le-length (λ x. not (p x)) xs) in is)

-- The piece of a rank, or what stands where there is none.
pub ranked : (r : Option (Bor (List ℕ))) (none : Bor (List ℕ)) (pieces : List (List ℕ)) (rank : ℕ) → option_map (λ piece. piece.now) r ≡ slice_get pieces rank → none.now ≡ [] → (unwrap_or r none).now ≡ get_or pieces rank []
ranked r none pieces rank e n = now_of r none n ∙ ap (λ o. unwrap_or o []) e ∙ unwrap_or-slice_get pieces rank [] where
  now_of : (r : Option (Bor (List ℕ))) (none : Bor (List ℕ)) → none.now ≡ [] → (unwrap_or r none).now ≡ unwrap_or (option_map (λ piece. piece.now) r) []
  now_of None none n = n
  now_of (Some piece) none n = refl
