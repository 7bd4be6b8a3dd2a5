-- A whole number becomes an f32 by its halves, h · 65536 + l. Each half is an f32 exactly, and so is the product, so only the sum rounds, as `of_int` does, from the number itself.
-- `HasValue x s a 1` says that x is a, or -a where s is true.
use Rattle.std.proofs.Common.{◌≡◌, refl, ◌∙◌, Bool, true, false, ℕ, zero, suc, ◌+◌, ◌-◌, ◌*◌, ◌^◌, ◌≤◌, ◌<◌, mul-pos, mul_comm, mul_assoc, mul_left_comm, mul-one, mul-add, mul-le-mul_right, le_of_lt, lt_of_le_of_lt, arith, lt-ltb, le-ltb, ℤ, pos, negsuc, neg_ℤ, ◌+ℤ◌, ◌*ℤ◌, lit<, Float}
use Rattle.std.proofs.lemmas.Bool.{false≢true}
use native.Mathlib.Nat.{mul-sub, mul-lt-mul_of_pos_left}
use lib.Signed.{mag}
use Rattle.std.specs.Float.Ieee.{nan, inf, fin, binary32, unlike, up, down, round, add, sum, mul, of_int, of_bits}
use Rattle.std.specs.Float.Ieee.Fits.{down_pos}
use Rattle.std.specs.Float.Ieee.Exact.{HasValue, round_exact}
use Rattle.std.specs.Float.Ieee.Scale.{round_same}
use Rattle.std.specs.Float.Ieee.Back.{round_whole}

-- a fraction that is the whole number n
round_at : (s : Bool) {a c : ℕ} (n : ℕ) → 0 < c → a ≡ c * n → round binary32 s a c ≡ round binary32 s n 1
round_at s {a} {c} n C e = round_same binary32 s a c n 1 C (lit< tt) (mul-one a ∙ e ∙ mul_comm c n)

-- 65536.0, as the code has it
abbrev pub base : Float
base = of_bits binary32 0x47800000

pub unlike_plus : (t : Bool) → unlike t false ≡ t
unlike_plus true = refl
unlike_plus false = refl

product_exact : (x : Float) (s : Bool) (a : ℕ) → a ≤ 65536 → HasValue x s a 1 → HasValue (mul binary32 x base) s (a * 65536) 1
unfolding mul of_bits
product_exact nan s a h v = absurd v
product_exact (inf t) s a h v = absurd v
product_exact (fin t m e) s a h v =
    let same : m * up e * 65536 ≡ down e * 1 * (a * 65536) = rw (simp mul-one at v.1) (simp (mul-one, mul_assoc, mul_comm, mul_left_comm)) in
    rw (unlike_plus t, v.0, round_at s (a * 65536) (mul-pos (down_pos e) (lit< tt)) same)
    (round_exact binary32 s (a * 65536) 1 a 165 (lit< tt) (omega arith) (lt_of_le_of_lt (mul-le-mul_right (2 ^ 165) h) (lit< tt)) (simp (mul_assoc, mul-one)))

-- ±a + b, with b below a where the sign is negative
abbrev total : Bool → ℕ → ℕ → Float
total false a b = round binary32 false (a + b) 1
total true a b = round binary32 true (a - b) 1

sum_once : (s : Bool) (a b c : ℕ) → 0 < c → (s ≡ true → b < a) → sum binary32 s (c * a) false (c * b) c ≡ total s a b
unfolding sum
sum_once false a b c C h = rw (← mul-add) (round_at false (a + b) C refl)
sum_once true a b c C h =
    let less : c * b < c * a = mul-lt-mul_of_pos_left (h refl) C in
    rw (le-ltb _ _ (le_of_lt less), lt-ltb _ _ less, ← mul-sub) (round_at true (a - b) C refl)

add_once : (x y : Float) (s : Bool) (a b : ℕ) → (s ≡ true → b < a) → HasValue x s a 1 → HasValue y false b 1 → add binary32 x y ≡ total s a b
unfolding add
add_once nan y s a b h v w = absurd v
add_once (inf t) y s a b h v w = absurd v
add_once (fin t m e) nan s a b h v w = absurd w
add_once (fin t m e) (inf u) s a b h v w = absurd w
add_once (fin t m e) (fin u n d) s a b h v w =
    let left : m * up e * down d ≡ down e * down d * a = rw (simp mul-one at v.1) (simp (mul_assoc, mul_comm, mul_left_comm)) in
    let right : n * up d * down e ≡ down e * down d * b = rw (simp mul-one at w.1) (simp (mul_assoc, mul_comm, mul_left_comm)) in
    rw (v.0, w.0, left, right) (sum_once s a b (down e * down d) (mul-pos (down_pos e) (down_pos d)) h)

-- -b + a, for an a below b
pub below_zero : (a b : ℕ) → a < b → neg_ℤ (pos b) +ℤ pos a ≡ negsuc (b - suc a)
below_zero a zero h = absurd (omega arith)
below_zero a (suc b) h = rw (lt-ltb _ _ h)

pub halves : (h : ℤ) (l : ℕ) → mag h < 65536 → l < 65536
    → add binary32 (mul binary32 (of_int binary32 h) base) (of_int binary32 (pos l)) ≡ of_int binary32 (h *ℤ pos 65536 +ℤ pos l)
unfolding of_int
halves (pos a) l p q =
    add_once _ _ false (a * 65536) l (λ e. absurd (false≢true e))
    (product_exact _ false a (omega arith) (round_whole binary32 false a (omega arith)))
    (round_whole binary32 false l (omega arith))
halves (negsuc a) l p q =
    let less : l < suc a * 65536 = omega arith in
    let same : suc (suc a * 65536 - suc l) ≡ suc a * 65536 - l = omega arith in
    add_once _ _ true (suc a * 65536) l (λ e. less)
    (product_exact _ true (suc a) (omega arith) (round_whole binary32 true (suc a) (omega arith)))
    (round_whole binary32 false l (omega arith))
    ∙ rw (below_zero l (suc a * 65536) less, same)
