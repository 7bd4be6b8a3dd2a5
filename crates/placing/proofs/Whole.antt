-- Whole numbers with a sign: how large a product and a sum can be.
use Rattle.std.proofs.Common.{ℕ, zero, suc, ◌+◌, ◌*◌, ◌<◌, ◌≤◌, ℤ, pos, negsuc, ◌+ℤ◌, ◌*ℤ◌, neg_ℤ, le_refl, le_trans, mul-le-mul, lt_of_not-le, arith, le-ltb, lt-ltb}
use Rattle.std.proofs.Math.Decide.{dec_le}
use Rattle.std.proofs.Math.IntN.{sub_ℕ}
use Rattle.std.specs.Int.Signed.{mag}

mag-negℤ : (n : ℕ) → mag (neg_ℤ (pos n)) ≤ n
mag-negℤ zero = le_refl 0
mag-negℤ (suc n) = omega arith

pub product_in : (z : ℤ) (k A K : ℕ) → mag z < A → k ≤ K → mag (z *ℤ pos k) ≤ A * K
product_in (pos a) k A K h l = mul-le-mul (omega arith) l
product_in (negsuc a) k A K h l = le_trans (mag-negℤ (suc a * k)) (mul-le-mul h l)

mag-subℕ : (a b : ℕ) → mag (sub_ℕ a b) ≤ a + b
mag-subℕ a b =
    elim (dec_le b a) [
      | yes h ↦ rw (le-ltb a b h) (omega arith)
      | no h ↦ rw (lt-ltb a b (lt_of_not-le h)) (omega arith)
    ]

pub sum_in : (x y : ℤ) → mag (x +ℤ y) ≤ mag x + mag y + 1
sum_in (pos a) (pos b) = omega arith
sum_in (pos a) (negsuc b) = le_trans (mag-subℕ a (suc b)) (omega arith)
sum_in (negsuc a) (pos b) = le_trans (mag-subℕ b (suc a)) (omega arith)
sum_in (negsuc a) (negsuc b) = omega arith
