-- A distance in metres is within half a micrometre of its micrometres. It is n / 1,000,000 rounded once (`metres_is`), a multiple of 2 ^ k steps that is off by at most half
-- of one such multiple (`near`). Below 16,000,000 micrometres k is at most 129, and 1,000,000 · 2 ^ 129 is below 2 ^ 149; at 16,000,000 nothing is rounded.
use Rattle.std.proofs.Common.{◌≡◌, ℕ, zero, suc, ◌+◌, ◌-◌, ◌*◌, ◌/◌, ◌%◌, ◌^◌, ◌<◌, ◌≤◌, Bool, true, false, cond, not, T, eqb, leb, ℤ, pos, negsuc, ◌-ℤ◌, ◌*ℤ◌, neg_ℤ, nat_abs, sym, refl, ap, ◌∙◌, subst, inl, inr, zero-le, le_trans, lt_of_le_of_lt, add-zero, le_of_lt, mod-lt, mul_assoc, mul_comm, div-lt_iff_lt-mul, eq-or-lt_of_le, mul-le-mul_left, mul-lt-mul_of_pos_right, mul-pos, lt_of_not-le, mul-zero, div-add-mod', mul-one, mul-suc, mul-add, arith, lit<, lit≤, eqb→eq, leb→le, pow_pos, pow_mono, le-ltb, lt-ltb, eq-eqb, ne_eqb, Float}
use Prim.Native.Nat.{compare, Ordering}
use Rattle.std.proofs.Math.Nat.{eq_of_mul-eq-mul_right}
use Rattle.std.proofs.Math.Decide.{dec_le, ℕ_discrete}
use Rattle.std.proofs.Math.Arith.{lt_of_le-ne}
use Rattle.std.proofs.Math.IntN.{sub_ℕ}
use Rattle.units.proofs.Halves.{unlike_plus}
use Rattle.placing.specs.Accuracy.{exponent_bits, Finite, fraction_bits, magnitude, steps, Within}
use Rattle.std.proofs.Math.Dec.{is_le, compare_is_eq, nleb→lt}
use Rattle.std.specs.Float.Ieee.{nan, inf, fin, binary32, up, down, size, nearest, odd, round, div, of_int, of_fields, of_bits, to_bits, fits}
use Rattle.std.specs.Float.Ieee.Digits.{size-le}
use Rattle.std.specs.Float.Ieee.Fits.{down_pos, round_is, round-fits}
use Rattle.std.specs.Float.Ieee.Exact.{HasValue, odd_sign, units_val}
use Rattle.std.specs.Float.Ieee.Nearest.{closest}
use Rattle.std.specs.Float.Ieee.Scale.{round_same}
use Rattle.std.specs.Float.Ieee.Back.{round_whole}
use Rattle.std.specs.Float.Ieee.Bits.{of_bits-to_bits}

-- ---- a fraction rounded to a whole number q is off by at most a half

-- n is u · q, give or take u / 2
abbrev Halfway : ℕ → ℕ → ℕ → Type 0
Halfway n u q = (2 * n ≤ 2 * (u * q) + u) × (2 * (u * q) ≤ 2 * n + u)

tie : (w r u b : ℕ) → b < 2 → r * 2 ≡ u → Halfway (u * w + r) u (w + b)
tie w r u zero h e = rw (add-zero w) (omega arith, omega arith)
tie w r u (suc zero) h e = rw (mul-add u w 1, mul-one u) (omega arith, omega arith)
tie w r u (suc (suc b)) h e = absurd (omega arith)

halfway : (w r u : ℕ) (o : Ordering) → (T (is_le o) → r * 2 ≤ u) → (T (not (is_le o)) → u < r * 2) → (T (compare_is_eq o) → r * 2 ≡ u) → r < u → Halfway (u * w + r) u (nearest w o)
halfway w r u Ordering.lt le gt eq less = (omega (arith, le tt), omega (arith, le tt))
halfway w r u Ordering.eq le gt eq less = tie w r u (w % 2) (omega arith) (eq tt)
halfway w r u Ordering.gt le gt eq less = rw (mul-suc u w) (omega (arith, gt tt), omega (arith, gt tt))

near : (n u : ℕ) → 0 < u → Halfway n u (closest n u)
near n u U =
    let whole : u * (n / u) + n % u ≡ n = rw (mul_comm u (n / u)) (div-add-mod' n u) in
    subst (λ (z : ℕ). Halfway z u (closest n u)) whole
    (halfway (n / u) (n % u) u (compare (n % u * 2) u) (leb→le (n % u * 2) u) (nleb→lt (n % u * 2) u) (eqb→eq (n % u * 2) u) (mod-lt n U))

-- ---- n / 1,000,000 rounded, in steps of 2 ^ -149

-- how many digits are dropped, and the steps
abbrev dropped : ℕ → ℕ
dropped n = size (n * 2 ^ 149 / 1000000) - 24

abbrev steps_of : ℕ → ℕ
steps_of n = closest (n * 2 ^ 149) (1000000 * 2 ^ dropped n) * 2 ^ dropped n

few_dropped : (n : ℕ) → n < 16000000 → dropped n ≤ 129
few_dropped n h =
    let under : n * 2 ^ 149 / 1000000 < 2 ^ 153 = (div-lt_iff_lt-mul (lit< tt)).1 (mul-lt-mul_of_pos_right h (pow_pos 149)) in
    omega (arith, size-le (n * 2 ^ 149 / 1000000) 153 under)

-- u = 1,000,000 · c, and P stands for 2 ^ 149
module _ (n P c q C : ℕ) (small : 1000000 * C ≤ P) (few : c ≤ C) (off : Halfway (n * P) (1000000 * c) q) where
  regroup : 1000000 * c * q ≡ 1000000 * (q * c)
  regroup = mul_assoc 1000000 c q ∙ ap (λ (z : ℕ). 1000000 * z) (mul_comm c q)

  below : 2 * (n * P) ≤ 2000000 * (q * c) + P
  below = omega (arith, off.0, regroup)

  above : 2000000 * (q * c) ≤ 2 * (n * P) + P
  above = omega (arith, off.1, regroup)

double : (n P : ℕ) → 2 * (n * P) ≡ 2 * P * n
double n P = ap (λ (z : ℕ). 2 * z) (mul_comm n P) ∙ sym (mul_assoc 2 P n)

close : (n : ℕ) → n < 16000000 → (2 ^ 150 * n ≤ 2000000 * steps_of n + 2 ^ 149) × (2000000 * steps_of n ≤ 2 ^ 150 * n + 2 ^ 149)
close n h =
    let k = dropped n in
    let q = closest (n * 2 ^ 149) (1000000 * 2 ^ k) in
    let off = near (n * 2 ^ 149) (1000000 * 2 ^ k) (mul-pos (lit< tt) (pow_pos k)) in
    let few : 2 ^ k ≤ 2 ^ 129 = pow_mono (few_dropped n h) in (
      subst (λ (z : ℕ). z ≤ 2000000 * steps_of n + 2 ^ 149) (double n (2 ^ 149)) (below n (2 ^ 149) (2 ^ k) q (2 ^ 129) (lit≤ tt) few off),
      subst (λ (z : ℕ). 2000000 * steps_of n ≤ z + 2 ^ 149) (double n (2 ^ 149)) (above n (2 ^ 149) (2 ^ k) q (2 ^ 129) (lit≤ tt) few off),
    )

more : (a b c : ℕ) → a ≤ b → a + c ≤ b + c
more a b c h = omega arith

round_value : (s : Bool) (n : ℕ) → n < 16000000 → HasValue (round binary32 s n 1000000) s (steps_of n) (2 ^ 149)
round_value s n h =
    let once : steps_of n ≤ 2000000 * steps_of n = omega arith in
    let most : 2 ^ 150 * n + 2 ^ 149 ≤ 2 ^ 150 * 16000000 + 2 ^ 149 = more _ _ (2 ^ 149) (mul-le-mul_left (2 ^ 150) (le_of_lt h)) in
    let finite : steps_of n < 2 ^ 277 = lt_of_le_of_lt (le_trans once (le_trans (close n h).1 most)) (lit< tt) in
    subst (λ (x : Float). HasValue x s (steps_of n) (2 ^ 149)) (sym (round_is binary32 s n 1000000))
    (units_val binary32 s (closest (n * 2 ^ 149) (1000000 * 2 ^ dropped n)) (dropped n) finite)

-- ---- the quotient rounds once

div_million : (x : Float) (s : Bool) (n : ℕ) → HasValue x s n 1 → div binary32 x (round binary32 false 1000000 1) ≡ round binary32 s n 1000000
unfolding div
div_million nan s n v = absurd v
div_million (inf t) s n v = absurd v
div_million (fin t m e) s n v = rw (unlike_plus t, v.0) (round_same binary32 s (m * up e * 1) (15625 * 64 * down e) n 1000000 (mul-pos (lit< tt) (down_pos e)) (lit< tt)
    (ap (λ (z : ℕ). z * 1000000) v.1 ∙ mul_assoc n (down e) 1000000 ∙ ap (λ (z : ℕ). n * z) (mul_comm (down e) 1000000)))

metres_is : (s : Bool) (n : ℕ) → n ≤ 16000000 → div binary32 (round binary32 s n 1) (round binary32 false 1000000 1) ≡ round binary32 s n 1000000
metres_is s n h = div_million _ s n (round_whole binary32 s n (le_trans h (lit≤ tt)))

-- ---- a float's bits

same_value : (x : Float) (s t : Bool) (a b c : ℕ) → HasValue x s a c → HasValue x t b c → (s ≡ t) × (a ≡ b)
same_value nan s t a b c v w = absurd v
same_value (inf u) s t a b c v w = absurd v
same_value (fin u m e) s t a b c v w = (sym v.0 ∙ w.0, eq_of_mul-eq-mul_right (down e) (down_pos e) a b (sym v.1 ∙ w.1))

not_finite : (b s t : Bool) (n : ℕ) → HasValue (cond b (inf s) nan) t n (2 ^ 149) → ⊥
not_finite true s t n v = v
not_finite false s t n v = v

-- the value that a pattern's three fields stand for
value_of_fields : (s t : Bool) (x f n : ℕ) → x ≤ 255 → HasValue (of_fields binary32 s x f) t n (2 ^ 149) → (x < 255) × (s ≡ t) × (magnitude x f ≡ n)
unfolding of_fields
value_of_fields s t zero f n h v =
    let is = same_value (odd 24 s f 0 149) s t (f * 2 ^ 0) n (2 ^ 149) (odd_sign 24 s f 0 149) v in
    (lit< tt, is.0, sym (mul-one f) ∙ is.1)
value_of_fields s t (suc x) f n h v =
    elim (ℕ_discrete (suc x) 255) [
      | yes e ↦ absurd (not_finite (eqb f 0) s t n (subst (λ (b : Bool). HasValue (cond b (cond (eqb f 0) (inf s) nan) (odd 24 s (2 ^ 23 + f) x 149)) t n (2 ^ 149)) (eq-eqb (suc x) 255 e) v))
      | no e ↦
          let is = same_value (odd 24 s (2 ^ 23 + f) x 149) s t ((2 ^ 23 + f) * 2 ^ x) n (2 ^ 149) (odd_sign 24 s (2 ^ 23 + f) x 149)
          (subst (λ (b : Bool). HasValue (cond b (cond (eqb f 0) (inf s) nan) (odd 24 s (2 ^ 23 + f) x 149)) t n (2 ^ 149)) (ne_eqb (suc x) 255 e) v) in
          (lt_of_le-ne h e, is.0, is.1)
    ]

bits_are : (x : Float) (t : Bool) (n : ℕ) → T (fits binary32 x) → HasValue x t n (2 ^ 149)
    → Finite (to_bits binary32 x) × (steps (to_bits binary32 x) ≡ cond t (neg_ℤ (pos n)) (pos n))
unfolding of_bits
bits_are x t n h v =
    let bits = to_bits binary32 x in
    let is = value_of_fields (leb (2 ^ 31) bits) t (exponent_bits bits) (fraction_bits bits) n (omega arith) (subst (λ (y : Float). HasValue y t n (2 ^ 149)) (sym (of_bits-to_bits binary32 x h)) v) in
    (is.0, rw (is.1, is.2))

-- ---- within half a micrometre

abs-subℕ : (a b c : ℕ) → b ≤ a + c → a ≤ b + c → nat_abs (sub_ℕ a b) ≤ c
abs-subℕ a b c h g =
    elim (dec_le b a) [
      | yes l ↦ rw (le-ltb a b l) (omega arith)
      | no l ↦ rw (lt-ltb a b (lt_of_not-le l)) (omega (arith, lt_of_not-le l))
    ]

-- the sign s, and the size n
abbrev signed_by : Bool → ℕ → ℤ
signed_by s n = cond s (neg_ℤ (pos n)) (pos n)

difference : (s : Bool) (a b c : ℕ) → b ≤ a + c → a ≤ b + c → nat_abs (signed_by s a -ℤ signed_by s b) ≤ c
difference false a zero c h g = omega arith
difference false a (suc b) c h g = abs-subℕ a (suc b) c h g
difference true zero zero c h g = zero-le
difference true zero (suc b) c h g = omega arith
difference true (suc a) zero c h g = abs-subℕ 0 (suc a) c (omega arith) zero-le
difference true (suc a) (suc b) c h g = abs-subℕ (suc b) (suc a) c g h

times : (k : ℕ) (s : Bool) (n : ℕ) → pos k *ℤ signed_by s n ≡ signed_by s (k * n)
times k true zero = rw (mul-zero k)
times k true (suc n) = refl
times k false n = refl

inside : (s : Bool) (n : ℕ) → n < 16000000 → Within (round binary32 s n 1000000) (signed_by s n)
inside s n h =
    let bits = bits_are (round binary32 s n 1000000) s (steps_of n) (round-fits binary32 s n 1000000) (round_value s n h) in
    record {
      finite = bits.0;
      close = rw (bits.1, times 2000000 s (steps_of n), times (2 ^ 150) s n) (difference s (2000000 * steps_of n) (2 ^ 150 * n) (2 ^ 149) (close n h).0 (close n h).1);
    }

at_limit : (s : Bool) → Within (round binary32 s 16000000 1000000) (signed_by s 16000000)
unfolding round to_bits
at_limit true = record { finite = lit< tt; close = lit≤ tt }
at_limit false = record { finite = lit< tt; close = lit≤ tt }

anywhere : (s : Bool) (n : ℕ) → n ≤ 16000000 → Within (round binary32 s n 1000000) (signed_by s n)
anywhere s n h =
    elim (eq-or-lt_of_le h) [
      | inl e ↦ rw e (at_limit s)
      | inr l ↦ inside s n l
    ]

quotient : (s : Bool) (n : ℕ) → n ≤ 16000000 → {d : ℤ} → d ≡ signed_by s n → Within (div binary32 (round binary32 s n 1) (round binary32 false 1000000 1)) d
quotient s n h e = rw (e, metres_is s n h) (anywhere s n h)

pub quotient_within : (micrometres : ℤ) → nat_abs micrometres ≤ 16000000 → Within (div binary32 (of_int binary32 micrometres) (round binary32 false 1000000 1)) micrometres
unfolding of_int
quotient_within (pos n) h = quotient false n h refl
quotient_within (negsuc n) h = quotient true (suc n) h refl
