-- A line has at most 64 bytes, since twenty digits hold a number of 64 bits: each digit more holds ten times as many.
use Rattle.std.proofs.Common.{ℕ, zero, suc, ◌*◌, ◌/◌, ◌^◌, ◌≤◌, ◌<◌, ◌≡◌, refl, Bool, true, false, cond, [], ◌∷◌, ◌++◌, length, length-append, eqb, arith, pow-suc, ltb-false, ltb-true}
use Rattle.std.proofs.Math.Dec.{ltb}
use Rattle.answers.specs.declared.Refusal.{Refusal}
use Rattle.answers.specs.Answer.{refusal_number, refusal_points}
use Rattle.head_lines.specs.HeadLines.{decimal, refused_text, space, line_end, head_line, refusal_line}
use Rattle.head_lines.proofs.Decimal.{one, more}

digits : (k n : ℕ) → n < 10 ^ suc k → length (decimal n) ≤ suc k
digits zero n h = rw (one n (omega arith)) (omega arith)
digits (suc k) n h = by_test (ltb n 10) refl (digits k (n / 10)) where
  by_test : (b : Bool) → ltb n 10 ≡ b → (n / 10 < 10 ^ suc k → length (decimal (n / 10)) ≤ suc k) → length (decimal n) ≤ suc (suc k)
  by_test true e tenth = rw (one n (ltb-true n 10 e)) (omega arith)
  by_test false e tenth =
      let under : n < 10 ^ suc k * 10 = rw pow-suc at h in
      let below : n / 10 < 10 ^ suc k = omega arith in
      rw (more n (ltb-false n 10 e), length-append) (omega (arith, tenth below))

pub few : (n : ℕ) → n < 2 ^ 64 → length (decimal n) ≤ 20
few n h = digits 19 n (omega arith)

pub head_short : (points frames : ℕ) → points < 2 ^ 64 → frames < 2 ^ 64 → length (head_line points frames) ≤ 64
unfolding head_line
head_short points frames h k = simp length-append (omega (arith, few points h, few frames k))

pub refusal_short : (refusal : Refusal) → refusal_number refusal < 2 ^ 64 → refusal_points refusal < 2 ^ 64 → length (refusal_line refusal) ≤ 64
unfolding refusal_line
refusal_short refusal h k = by_test (eqb (refusal_number refusal) 10)
  where
    by_test : (b : Bool) → length (refused_text ++ decimal (refusal_number refusal) ++ cond b (space ∷ decimal (refusal_points refusal)) [] ++ line_end ∷ []) ≤ 64
    by_test true = simp length-append (omega (arith, few (refusal_number refusal) h, few (refusal_points refusal) k))
    by_test false = simp length-append (omega (arith, few (refusal_number refusal) h))
