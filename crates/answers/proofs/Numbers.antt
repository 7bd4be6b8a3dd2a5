-- A refusal tells a number that is not 0 and no points, or 10 and the points needed. `told_by` is the one list of all refusals: whoever has to know what one tells
-- goes by the two cases of `ToldBy`.
use Rattle.std.proofs.Common.{ℕ, suc, ◌≤◌, arith, ◌≡◌, refl}
use Rattle.answers.specs.declared.Refusal.{Refusal}
use Rattle.answers.specs.declared.Refusal.TheVariants.{TooLong, BadSettings, TooShort, WrongMark, WrongCode, HeaderTooShort, DevicesPastEnd, NotWholeRecords, NoPayload, NoRoom, NotPlaceable, BadPulseLength, OutsideWindow}
use Rattle.answers.specs.Answer.{number, tells, refusal_number, refusal_points}

pub data ToldBy : Refusal → Type 0 where
  plain : {r : Refusal} (n : ℕ) → tells r ≡ number (suc n) → ToldBy r
  room : (needed : ℕ) → ToldBy (NoRoom needed)

pub told_by : (r : Refusal) → ToldBy r
told_by TooLong = plain 0 refl
told_by BadSettings = plain 1 refl
told_by TooShort = plain 2 refl
told_by WrongMark = plain 3 refl
told_by WrongCode = plain 4 refl
told_by HeaderTooShort = plain 5 refl
told_by DevicesPastEnd = plain 6 refl
told_by NotWholeRecords = plain 7 refl
told_by NoPayload = plain 8 refl
told_by (NoRoom needed) = room needed
told_by NotPlaceable = plain 10 refl
told_by BadPulseLength = plain 11 refl
told_by OutsideWindow = plain 12 refl

-- A refusal's number is not 0.
pub positive : (r : Refusal) → 1 ≤ refusal_number r
positive r = go (told_by r)
  where
    go : {r : Refusal} → ToldBy r → 1 ≤ refusal_number r
    go (plain n e) = rw e (omega arith)
    go (room needed) = omega arith

-- A refusal other than 10 tells no points.
pub tells_none : (r : Refusal) → (refusal_number r ≡ 10 → ⊥) → refusal_points r ≡ 0
tells_none r = go (told_by r)
  where
    go : {r : Refusal} → ToldBy r → (refusal_number r ≡ 10 → ⊥) → refusal_points r ≡ 0
    go (plain n e) other = rw e
    go (room needed) other = absurd (other refl)
