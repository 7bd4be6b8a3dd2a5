-- A difference that wraps, read with its sign, is the difference of the whole counts, where those are less than 2 ^ 31 apart: the low 32 bits of a difference are those
-- of the low 32 bits' difference (`low_difference`), and a small number is what its low 32 bits say, read with their sign (`small_signed`).
use Rattle.std.proofs.Common.{◌≡◌, ℕ, zero, suc, ◌+◌, ◌-◌, ◌%◌, ◌^◌, ◌<◌, ◌≤◌, ℤ, pos, negsuc, ◌-ℤ◌, nat_abs, ap, ◌∙◌, suc-le-suc, lt_of_not-le, arith, le-ltb, lt-ltb}
use Rattle.std.proofs.Math.Decide.{dec_le}
use Rattle.std.proofs.Math.IntN.{sub_ℕ, +ℤ_idr}
use Rattle.fields.specs.Signed.{signed}
use Rattle.placing.specs.Accuracy.{low32}

-- m − n of two counts from 0 on, and of two below 0, either way
low_above : (m n : ℕ) → (m % 2 ^ 32 + (2 ^ 32 - n % 2 ^ 32)) % 2 ^ 32 ≡ low32 (sub_ℕ m n)
low_above m n =
    elim (dec_le n m) [
      | yes h ↦ rw (le-ltb m n h) (omega arith)
      | no h ↦ rw (lt-ltb m n (lt_of_not-le h)) (omega (arith, lt_of_not-le h))
    ]

low_below : (m n : ℕ) → (2 ^ 32 - 1 - m % 2 ^ 32 + (2 ^ 32 - (2 ^ 32 - 1 - n % 2 ^ 32))) % 2 ^ 32 ≡ low32 (sub_ℕ (suc n) (suc m))
low_below m n =
    elim (dec_le m n) [
      | yes h ↦ rw (le-ltb (suc n) (suc m) (suc-le-suc h)) (omega arith)
      | no h ↦ rw (lt-ltb (suc n) (suc m) (suc-le-suc (lt_of_not-le h))) (omega (arith, lt_of_not-le h))
    ]

low_difference : (a b : ℤ) → (low32 a + (2 ^ 32 - low32 b)) % 2 ^ 32 ≡ low32 (a -ℤ b)
low_difference (pos m) (pos zero) = omega arith
low_difference (pos m) (pos (suc n)) = low_above m (suc n)
low_difference (pos m) (negsuc n) = omega arith
low_difference (negsuc m) (pos zero) = rw (+ℤ_idr (negsuc m)) (omega arith)
low_difference (negsuc m) (pos (suc n)) = omega arith
low_difference (negsuc m) (negsuc n) = low_below m n

small_signed : (z : ℤ) → nat_abs z < 2 ^ 31 → signed 32 (low32 z) ≡ z
unfolding signed
small_signed (pos n) h =
    let same : n % 2 ^ 32 ≡ n = omega arith in
    rw (same, lt-ltb n (2 ^ 31) h)
small_signed (negsuc n) h =
    let same : n % 2 ^ 32 ≡ n = omega arith in
    let high : 2 ^ 31 ≤ 2 ^ 32 - 1 - n = omega arith in
    let less : 2 ^ 32 - 1 - n < 2 ^ 32 = omega arith in
    let back : 2 ^ 32 - suc (2 ^ 32 - 1 - n) ≡ n = omega arith in
    rw (same, le-ltb _ _ high, lt-ltb _ _ less) (ap negsuc back)

-- count − datum, by their low 32 bits
abbrev pub signed_difference : ℕ → ℕ → ℤ
signed_difference count datum = signed 32 ((count + (2 ^ 32 - datum)) % 2 ^ 32)

pub difference_is : (a b : ℤ) → nat_abs (a -ℤ b) < 2 ^ 31 → signed_difference (low32 a) (low32 b) ≡ a -ℤ b
difference_is a b h = ap (signed 32) (low_difference a b) ∙ small_signed (a -ℤ b) h

-- A count and a datum moved by the same amount have the same difference.
pub moved_alike : (count datum by : ℕ) → count < 2 ^ 32 → datum < 2 ^ 32 → signed_difference ((count + by) % 2 ^ 32) ((datum + by) % 2 ^ 32) ≡ signed_difference count datum
moved_alike count datum by c d =
    let same : ((count + by) % 2 ^ 32 + (2 ^ 32 - (datum + by) % 2 ^ 32)) % 2 ^ 32 ≡ (count + (2 ^ 32 - datum)) % 2 ^ 32 = omega arith in
    ap (signed 32) same
