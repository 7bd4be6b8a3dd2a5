-- Demand 3 holds of every placing. First what it needs of the definitions, a fact each: the functions' proofs hold for other numbers as well, so that a definition which says
-- otherwise is refused here, even where the code says the same. Then the claim, by what a placing comes to (`by_checks`).
use Rattle.std.proofs.Common.{◌≡◌, ℕ, ◌+◌, ◌%◌, ◌^◌, ◌<◌, ◌≤◌, false, ltb, ℤ, pos, negsuc, ◌-ℤ◌, nat_abs, sym, refl, ap, ◌∙◌, subst, true≢false, suc-ne-zero, ltb-false, ltb-true, le-ltb, Option, None, Some}
use Rattle.std.proofs.Math.Bool.{or-false}
use Rattle.std.proofs.Math.Dec.{leb-suc-suc}
use Rattle.std.specs.Float.Ieee.{binary32, div, of_int, round}
use Rattle.points.specs.ReadInto.{first_refusal}
use Rattle.points.proofs.ReadInto.{Numbered}
use Rattle.livox_stored.specs.Stored.{Stored, millimetres, ten_millimetres, spherical, float}
use Rattle.placing.specs.Placing.{along, Asked, bad_pulse_length, checks_of, exact, exact_of, metres, Placement, outside, place, pulses}
use Rattle.placing.specs.Accuracy.{Accurate, Decided, ExactDistance, seen_at, ToldWithin}
use Rattle.placing.proofs.Checks.{by_checks}
use Rattle.placing.proofs.Rounding.{quotient_within}
use Rattle.placing.proofs.Wrapping.{difference_is, moved_alike, signed_difference}

-- ---- what the claim needs of the definitions

-- 1,000 and 10,000 micrometres
pub seen : (reading : Stored) → along reading ≡ seen_at (Some reading)
seen (millimetres x y z) = refl
seen (ten_millimetres x y z) = refl
seen (spherical depth zenith azimuth) = refl
seen (float x y z) = refl

-- count less datum
difference : (count datum : ℕ) → pulses count datum ≡ signed_difference count datum
unfolding pulses
difference count datum = refl

-- 1 to 1,000 are pulse lengths
good_length : (length : ℕ) → 1 ≤ length → length ≤ 1000 → bad_pulse_length length ≡ false
good_length length l h = rw (le-ltb length 1 l, le-ltb 1000 length h)

-- 16,000,000 micrometres either way
window : (d : ℤ) → outside d ≡ ltb 16000000 (nat_abs d)
window (pos n) = refl
window (negsuc n) = rw (leb-suc-suc 16000000 n) (or-false (ltb 15999999 n))

-- a metre of 1,000,000 micrometres
quotient : (d : ℤ) → metres d ≡ div binary32 (of_int binary32 d) (round binary32 false 1000000 1)
unfolding metres
quotient d = refl

-- ---- the claim

module _ (asked : Asked) (numbered : Numbered asked.checks) (reading : Option Stored) (seen-is : asked.micrometres ≡ seen_at reading) (count datum pulse_length : ℕ) where
  module _ (d : ℤ) (exactly : ExactDistance reading count datum pulse_length d) where
    d_is : exact exactly.x (pulses count datum) pulse_length ≡ d
    d_is =
        let moved : pulses count datum ≡ exactly.whole_count -ℤ exactly.whole_datum = difference count datum ∙ rw (exactly.is_count, exactly.is_datum) (difference_is exactly.whole_count exactly.whole_datum exactly.apart) in
        rw moved (sym exactly.is_exact)

    told_within : ToldWithin d (place asked count datum pulse_length)
    told_within =
        by_checks asked count datum pulse_length numbered _ (seen-is ∙ exactly.is_seen) d d_is (ToldWithin d) (λ r e. tt) (λ bad. tt) (λ far. tt)
        (λ near. rw (quotient d) (quotient_within d (ltb-false 16000000 (nat_abs d) (sym (window d) ∙ near))))

    decided : first_refusal asked.checks ≡ 0 → 1 ≤ pulse_length → pulse_length ≤ 1000 → Decided d (place asked count datum pulse_length)
    decided passes l h =
        by_checks asked count datum pulse_length numbered _ (seen-is ∙ exactly.is_seen) d d_is (Decided d) (λ r e. absurd (suc-ne-zero r (sym e ∙ passes)))
        (λ bad. absurd (true≢false (sym bad ∙ good_length pulse_length l h)))
        (λ far. (ltb-true 16000000 (nat_abs d) (sym (window d) ∙ far), refl))
        (λ near. ltb-false 16000000 (nat_abs d) (sym (window d) ∙ near))

  pub accurate : Accurate asked.checks reading count datum pulse_length (place asked count datum pulse_length)
  accurate = record { told_within = told_within; decided = decided }

  -- What both contracts of a placing say, from the first.
  pub both : {placement : Placement} → placement ≡ place asked count datum pulse_length
      → (placement ≡ place asked count datum pulse_length) × Accurate asked.checks reading count datum pulse_length placement
  both e = (e, subst (Accurate asked.checks reading count datum pulse_length) (sym e) accurate)

-- A count and a datum moved by the same amount change nothing.
pub placed_alike : (asked : Asked) (count datum pulse_length by : ℕ) → count < 2 ^ 32 → datum < 2 ^ 32
    → place asked ((count + by) % 2 ^ 32) ((datum + by) % 2 ^ 32) pulse_length ≡ place asked count datum pulse_length
unfolding place checks_of exact_of
placed_alike asked count datum pulse_length by c d = rw (exact_alike asked.micrometres)
  where
    exact_alike : (m : Option ℤ) → exact_of m ((count + by) % 2 ^ 32) ((datum + by) % 2 ^ 32) pulse_length ≡ exact_of m count datum pulse_length
    exact_alike (Some x) = ap (λ (z : ℤ). exact x z pulse_length) (difference ((count + by) % 2 ^ 32) ((datum + by) % 2 ^ 32) ∙ moved_alike count datum by c d ∙ sym (difference count datum))
    exact_alike None = refl
