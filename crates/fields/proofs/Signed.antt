-- std's `cast_signed` is two's complement, at any width: below the middle a number stands for itself, and from there on for
-- n - 2 ^ bits.
use Rattle.std.proofs.Common.{◌≡◌, SFits, ℕ, ℤ, List, Some, of_z, suc, ◌+◌, ◌-◌, ◌^◌, ◌≤◌, ◌<◌, ◌∙◌, ap, arith, to_z, inl, inr, lt-ltb, le-ltb}
use Rattle.std.specs.Int.{Width}
use Rattle.std.proofs.Math.Facts.{to_z-neg}
use Rattle.std.proofs.lemmas.Bool.{cases_lt}
use Rattle.std.proofs.lemmas.Int.{to_z_pos, to_z-of_z}
use mir.Val.{bits, hbits}
use Rattle.fields.specs.declared.ByteOrder.{ByteOrder}
use Rattle.fields.specs.Number.{field}
use Rattle.fields.specs.Signed.{signed}
use Rattle.fields.proofs.Laws.{mapped}

module _ (w : Width) (n : ℕ) (middle : 2 ^ (bits w - 1) ≡ 2 ^ hbits w) (double : 2 ^ bits w ≡ 2 ^ hbits w + 2 ^ hbits w) where
  below : n < 2 ^ (bits w - 1) → to_z w n ≡ signed (bits w) n
  unfolding signed
  below h =
      let low : n < 2 ^ hbits w = omega (arith, middle) in
      rw (lt-ltb n (2 ^ (bits w - 1)) h) (to_z_pos w n low)

  above : 2 ^ (bits w - 1) ≤ n → n < 2 ^ bits w → to_z w n ≡ signed (bits w) n
  unfolding signed
  above h fits =
      let turned : n ≡ 2 ^ bits w - suc (2 ^ bits w - suc n) = omega arith in
      let small : 2 ^ bits w - suc n < 2 ^ hbits w = omega (arith, middle, double) in
      rw (le-ltb n (2 ^ (bits w - 1)) h, lt-ltb n (2 ^ bits w) fits) (ap (to_z w) turned ∙ to_z-neg w (2 ^ bits w - suc n) small)

  pub signed_is : n < 2 ^ bits w → to_z w n ≡ signed (bits w) n
  signed_is fits = elim (cases_lt n (2 ^ (bits w - 1))) [ inl h ↦ below h | inr h ↦ above h fits ]

  -- What code makes of a field by std's cast.
  pub signed_field : (o : ByteOrder) (k : ℕ) (s : List ℕ) (off : ℕ) {z : ℤ} → SFits w z → z ≡ to_z w n → n < 2 ^ bits w → Some n ≡ field (λ m. m) o k s off
      → Some (to_z w (of_z w z)) ≡ field (signed (bits w)) o k s off
  signed_field o k s off held cast fits found = ap Some (to_z-of_z w _ held ∙ cast ∙ signed_is fits) ∙ mapped (signed (bits w)) (λ m. m) o k s off found
