-- How C names the form of a file, and is told a stored reading: a number for its kind, and its three numbers. Without
-- a reading all are 0.
use Rattle.std.specs.Prelude.{ℕ, Bool, true, false, ℤ, pos, Option, None, Some}
use Rattle.livox_form.specs.declared.Form.{Form}
use Rattle.livox_form.specs.declared.Form.TheVariants.{Lvx, Lvx2}
use Rattle.livox_stored.specs.Stored.{Stored, millimetres, ten_millimetres, spherical, float}

abbrev pub form_of_flag : Bool → Form
form_of_flag true = Lvx2
form_of_flag false = Lvx

pub data StoredNumbers : Type 0 where
  -- the kind, and the three numbers
  stored_numbers : ℕ → ℤ → ℤ → ℤ → StoredNumbers

abbrev pub tell_stored : Option Stored → StoredNumbers
tell_stored None = stored_numbers 0 (pos 0) (pos 0) (pos 0)
tell_stored (Some (millimetres x y z)) = stored_numbers 1 x y z
tell_stored (Some (ten_millimetres x y z)) = stored_numbers 2 x y z
tell_stored (Some (spherical depth zenith azimuth)) = stored_numbers 3 (pos depth) (pos zenith) (pos azimuth)
tell_stored (Some (float x y z)) = stored_numbers 4 (pos x) (pos y) (pos z)
