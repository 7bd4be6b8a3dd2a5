-- The numbers a call may give back: what each case of code's answer stands for.
use Rattle.std.specs.Prelude.{ℕ, Result, Ok, Err}
use Rattle.answers.specs.declared.Refusal.{Refusal}
use Rattle.answers.specs.declared.Refusal.TheVariants.{TooLong, BadSettings, TooShort, WrongMark, WrongCode, HeaderTooShort, DevicesPastEnd, NotWholeRecords, NoPayload, NoRoom, NotPlaceable, BadPulseLength, OutsideWindow}
use Rattle.answers.specs.declared.Counts.{Counts}

-- What is told with a refusal: its number and no points, or 10 and the points needed.
pub data Tells : Type 0 where
  number : ℕ → Tells
  no_room : ℕ → Tells

abbrev pub tells : Refusal → Tells
tells TooLong = number 1
tells BadSettings = number 2
tells TooShort = number 3
tells WrongMark = number 4
tells WrongCode = number 5
tells HeaderTooShort = number 6
tells DevicesPastEnd = number 7
tells NotWholeRecords = number 8
tells NoPayload = number 9
tells (NoRoom needed) = no_room needed
tells NotPlaceable = number 11
tells BadPulseLength = number 12
tells OutsideWindow = number 13

abbrev number_told : Tells → ℕ
number_told (number n) = n
number_told (no_room needed) = 10

abbrev points_told : Tells → ℕ
points_told (number n) = 0
points_told (no_room needed) = needed

abbrev pub refusal_number : Refusal → ℕ
refusal_number refusal = number_told (tells refusal)

abbrev pub refusal_points : Refusal → ℕ
refusal_points refusal = points_told (tells refusal)

-- 0 when the call did what it is for.
abbrev pub number_of : {A : Type 0} → Result A Refusal → ℕ
number_of (Ok done) = 0
number_of (Err refusal) = refusal_number refusal

abbrev pub points_of : Result Counts Refusal → ℕ
points_of (Ok counts) = counts.points
points_of (Err refusal) = refusal_points refusal

abbrev pub frames_of : Result Counts Refusal → ℕ
frames_of (Ok counts) = counts.frames
frames_of (Err refusal) = 0
