-- The steps of the definition are enough, and the digits that the library writes are those of the definition.
use Rattle.std.proofs.Common.{ℕ, zero, suc, ◌+◌, ◌/◌, ◌%◌, ◌^◌, ◌≤◌, ◌<◌, ◌≡◌, refl, Bool, true, false, cond, [], ◌∷◌, ◌++◌, arith, ltb-false, lt-ltb, le-ltb}
use Rattle.std.proofs.Math.Dec.{ltb}
use Rattle.std.proofs.lemmas.Fmt.{decimal_by_steps}
use Rattle.std.specs.Fmt.{decimal as written}
use Rattle.head_lines.specs.HeadLines.{glyph, decimal_in, decimal}

-- more steps change nothing
pub steps_enough : (s t n : ℕ) → n < s → n < t → decimal_in s n ≡ decimal_in t n
unfolding decimal_in
steps_enough zero t n h g = absurd (omega arith)
steps_enough (suc s) zero n h g = absurd (omega arith)
steps_enough (suc s) (suc t) n h g = by_test (ltb n 10) refl (λ l. steps_enough s t (n / 10) (omega arith) (omega arith)) where
  by_test : (b : Bool) → ltb n 10 ≡ b → (10 ≤ n → decimal_in s (n / 10) ≡ decimal_in t (n / 10)) → cond b [] (decimal_in s (n / 10)) ++ glyph (n % 10) ∷ [] ≡ cond b [] (decimal_in t (n / 10)) ++ glyph (n % 10) ∷ []
  by_test true e again = refl
  by_test false e again = rw (again (ltb-false n 10 e))

pub one : (n : ℕ) → n < 10 → decimal n ≡ (48 + n) ∷ []
unfolding decimal decimal_in
one n h = let is : n % 10 ≡ n = omega arith in rw (lt-ltb n 10 h, is)

pub more : (n : ℕ) → 10 ≤ n → decimal n ≡ decimal (n / 10) ++ (48 + n % 10) ∷ []
unfolding decimal decimal_in
more n h = rw (le-ltb n 10 h, steps_enough n (suc (n / 10)) (n / 10) (omega arith) (omega arith))

-- what `{n}` writes
pub decimal_is : (n : ℕ) → n < 2 ^ 64 → written n ≡ decimal n
decimal_is n h = decimal_by_steps (λ n ds. ds ≡ decimal n) (λ n h. rw (one n h)) (λ n ds h e. rw (more n h, e)) n h
