-- Placing a point on the belt: the checks in their order, and the distance that is told. x runs along the belt.
use Rattle.std.specs.Prelude.{ℕ, zero, suc, ◌+◌, ◌-◌, ◌%◌, ◌^◌, Bool, true, false, ◌||◌, List, [], ◌∷◌, ◌++◌, ℤ, pos, ◌+ℤ◌, ◌*ℤ◌, neg_ℤ, int_lt, nat_lt, Float, Result, Ok, Err, Option, Some, None}
use Rattle.std.specs.Float.{binary32}
use Rattle.std.specs.Float.Ieee.{of_int, round, div}
use Rattle.fields.specs.Signed.{signed}
use Rattle.answers.specs.Answer.{refusal_number}
use Rattle.points.specs.ReadInto.{Check, first_refusal}
use Rattle.livox_stored.specs.Stored.{Stored, millimetres, ten_millimetres, spherical, float}
use Rattle.answers.specs.declared.Refusal.{Refusal}

-- The whole micrometres along the belt of a whole-millimetre point, whose reading is in millimetres or in
-- ten-millimetre counts.
abbrev pub along : Stored → Option ℤ
along (millimetres x y z) = Some (x *ℤ pos 1000)
along (ten_millimetres x y z) = Some (x *ℤ pos 10000)
along (spherical depth zenith azimuth) = None
along (float x y z) = None

-- What is asked to be placed: the checks of a file, none where a reading is given, and the micrometres along the
-- belt, none where there is no whole-millimetre point.
pub record Asked : Type 0 where
  pub checks : List Check
  pub micrometres : Option ℤ

abbrev pub by_reading : Stored → Asked
by_reading reading = record { checks = []; micrometres = along reading }

-- count − datum, wrapping at 2 ^ 32, read as −2 ^ 31 to 2 ^ 31 − 1.
unfoldable pub pulses : ℕ → ℕ → ℤ
unfolding signed
pulses count datum = signed 32 ((count + (2 ^ 32 - datum)) % 2 ^ 32)

-- The exact micrometres: those of the point, moved by so many pulses of such a length.
abbrev pub exact : ℤ → ℤ → ℕ → ℤ
exact x moved pulse_length = x +ℤ moved *ℤ pos pulse_length

-- The same, and 0 where there is no such point: check 11 then comes first, so that it is never told.
unfoldable pub exact_of : Option ℤ → ℕ → ℕ → ℕ → ℤ
unfolding pulses
exact_of (Some x) count datum pulse_length = exact x (pulses count datum) pulse_length
exact_of None count datum pulse_length = pos 0

abbrev missing : Option ℤ → Bool
missing (Some x) = false
missing None = true

-- 12: the pulse length is outside 1 to 1,000 micrometres.
abbrev pub bad_pulse_length : ℕ → Bool
bad_pulse_length pulse_length = nat_lt pulse_length 1 || nat_lt 1000 pulse_length

-- 13: the exact place lies beyond 16,000,000 micrometres either way.
abbrev pub outside : ℤ → Bool
outside micrometres = int_lt micrometres (neg_ℤ (pos 16000000)) || int_lt (pos 16000000) micrometres

-- The micrometres as an f32, / 1000000.0.
unfoldable pub metres : ℤ → Float
metres micrometres = div binary32 (of_int binary32 micrometres) (round binary32 false 1000000 1)

-- What a placing gives back: 0 and the distance in metres, or a refusal's number.
pub data Placement : Type 0 where
  told : Float → Placement
  refused : ℕ → Placement

abbrev pub placement_of : ℕ → ℤ → Placement
placement_of zero micrometres = told (metres micrometres)
placement_of (suc number) micrometres = refused (suc number)

-- The checks in their order: those of the file, then 11, 12 and 13.
unfoldable pub checks_of : Asked → ℕ → ℕ → ℕ → List Check
unfolding exact_of
checks_of asked count datum pulse_length =
    asked.checks
    ++ (11, missing asked.micrometres)
    ∷ (12, bad_pulse_length pulse_length)
    ∷ (13, outside (exact_of asked.micrometres count datum pulse_length))
    ∷ []

unfoldable pub place : Asked → ℕ → ℕ → ℕ → Placement
unfolding metres first_refusal checks_of exact_of
place asked count datum pulse_length = placement_of (first_refusal (checks_of asked count datum pulse_length)) (exact_of asked.micrometres count datum pulse_length)

-- The answer of code.
abbrev pub of_placed : Result Float Refusal → Placement
of_placed (Ok x) = told x
of_placed (Err refusal) = refused (refusal_number refusal)
