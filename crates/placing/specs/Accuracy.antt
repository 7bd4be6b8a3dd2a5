-- Demand 3, in whole numbers. However often the count has wrapped, where count and datum stand for whole counts less
-- than 2 ^ 31 apart, a distance that is told of a whole-millimetre point is within half a micrometre of the exact one;
-- and where checks 1 to 7 let the file through, with a pulse length of 1 to 1,000, the point is refused exactly beyond
-- 16 m, with 13. The stored reading and the file's checks are those of the readers; of `Placing` only what a placing
-- gives back is shared.
use Rattle.std.specs.Prelude.{◌≡◌, ℕ, zero, suc, ◌+◌, ◌-◌, ◌*◌, ◌/◌, ◌%◌, ◌^◌, ◌<◌, ◌≤◌, cond, List, ℤ, pos, negsuc, ◌+ℤ◌, ◌-ℤ◌, ◌*ℤ◌, neg_ℤ, nat_le, to_bits, unsigned_abs, Float, Option, None, Some}
use Rattle.std.specs.Float.{binary32}
use Rattle.points.specs.ReadInto.{Check, first_refusal}
use Rattle.livox_stored.specs.Stored.{Stored, millimetres, ten_millimetres, spherical, float}
use Rattle.placing.specs.Placing.{Placement, told, refused}

-- The micrometres of a whole-millimetre point's x reading: millimetres × 1,000, or ten-millimetre counts × 10,000.
abbrev pub seen_at : Option Stored → Option ℤ
seen_at (Some (millimetres x y z)) = Some (x *ℤ pos 1000)
seen_at (Some (ten_millimetres x y z)) = Some (x *ℤ pos 10000)
seen_at (Some (spherical depth zenith azimuth)) = None
seen_at (Some (float x y z)) = None
seen_at None = None

-- The remainder by 2 ^ 32 of a whole count, below 0 too: its low 32 bits.
abbrev pub low32 : ℤ → ℕ
low32 (pos n) = n % 2 ^ 32
low32 (negsuc n) = 2 ^ 32 - 1 - n % 2 ^ 32

-- d is the exact distance in micrometres: a whole-millimetre point's, moved by the pulses. They are the difference of
-- two whole counts less than 2 ^ 31 apart of which count and datum are the low 32 bits. `Accurate` speaks of every such
-- d, and so of every two.
pub record ExactDistance (reading : Option Stored) (count datum pulse_length : ℕ) (d : ℤ) : Type 0 where
  pub x : ℤ
  pub is_seen : seen_at reading ≡ Some x
  pub whole_count : ℤ
  pub whole_datum : ℤ
  pub is_count : count ≡ low32 whole_count
  pub is_datum : datum ≡ low32 whole_datum
  pub apart : unsigned_abs (whole_count -ℤ whole_datum) < 2 ^ 31
  pub is_exact : d ≡ x +ℤ (whole_count -ℤ whole_datum) *ℤ pos pulse_length

-- An f32's bits: the sign, 8 bits of exponent and 23 of fraction. It is finite where the exponent's bits are not all
-- ones.
abbrev pub exponent_bits : ℕ → ℕ
exponent_bits bits = bits % 2 ^ 31 / 2 ^ 23

abbrev pub fraction_bits : ℕ → ℕ
fraction_bits bits = bits % 2 ^ 23

abbrev pub Finite : ℕ → Type 0
Finite bits = exponent_bits bits < 255

-- Without the sign: exponent bits 0 stand for a number without a leading one, and all others for one with it.
abbrev pub magnitude : ℕ → ℕ → ℕ
magnitude zero fraction = fraction
magnitude (suc exponent) fraction = (2 ^ 23 + fraction) * 2 ^ exponent

-- The steps of 2 ^ -149 that a finite f32 is.
abbrev pub steps : ℕ → ℤ
steps bits = cond (nat_le (2 ^ 31) bits) (neg_ℤ (pos (magnitude (exponent_bits bits) (fraction_bits bits)))) (pos (magnitude (exponent_bits bits) (fraction_bits bits)))

-- Finite, and within half a micrometre of a distance d in micrometres: 2,000,000 times the steps and 2 ^ 150 times d
-- differ by at most 2 ^ 149.
pub record Within (x : Float) (d : ℤ) : Type 0 where
  pub finite : Finite (to_bits binary32 x)
  pub close : unsigned_abs (pos 2000000 *ℤ steps (to_bits binary32 x) -ℤ pos (2 ^ 150) *ℤ d) ≤ 2 ^ 149

-- A distance that is told is within half a micrometre of d.
abbrev pub ToldWithin : ℤ → Placement → Type 0
ToldWithin d (told x) = Within x d
ToldWithin d (refused number) = Unit {0}

-- Refused exactly where d lies beyond 16,000,000 micrometres either way, and then with 13; told in every other case.
abbrev pub Decided : ℤ → Placement → Type 0
Decided d (told x) = unsigned_abs d ≤ 16000000
Decided d (refused number) = (16000000 < unsigned_abs d) × (number ≡ 13)

-- The claim. A stored reading comes with no checks, and that of a file with the file's. `told_within` holds whatever
-- they say, and whatever the pulse length.
pub record Accurate (checks : List Check) (reading : Option Stored) (count datum pulse_length : ℕ) (placement : Placement) : Type 0 where
  pub told_within : (d : ℤ) → ExactDistance reading count datum pulse_length d → ToldWithin d placement
  pub decided : (d : ℤ) → ExactDistance reading count datum pulse_length d → first_refusal checks ≡ 0 → 1 ≤ pulse_length → pulse_length ≤ 1000
      → Decided d placement
