-- A placing, check by check: the checks of a file in their order, then 11, 12 and 13, then the distance (`by_checks`).
use Rattle.std.proofs.Common.{◌≡◌, ℕ, zero, suc, ◌^◌, ◌<◌, ◌≤◌, Bool, true, false, ◌||◌, T, ltb, [], ℤ, pos, negsuc, sym, refl, ap, ◌∙◌, subst, le_trans, lt_of_le_of_lt, le→leb, lt→ltb, ltb-false, Float, Some, None}
use Rattle.std.proofs.Math.Bool.{or-false}
use Rattle.std.specs.Float.Ieee.{binary32, in_float}
use Rattle.std.specs.Int.Signed.{lt_z}
use Rattle.points.specs.ReadInto.{first_refusal}
use Rattle.points.proofs.ReadInto.{Numbered, first_decides, first_passes}
use Rattle.placing.specs.Placing.{Asked, bad_pulse_length, checks_of, exact, exact_of, metres, outside, place, Placement, placement_of, pulses, refused, told}

-- Inside limits that 24 bits hold, every whole number is an f32.
pub castable : (low high : ℕ) → low < 2 ^ 24 → high ≤ 2 ^ 24 → (micrometres : ℤ) → (lt_z micrometres (negsuc low) || lt_z (pos high) micrometres) ≡ false → T (in_float binary32 micrometres)
unfolding in_float
castable low high l h (pos n) e = le→leb _ _ (le_trans (ltb-false high n e) h)
castable low high l h (negsuc n) e = lt→ltb _ _ (lt_of_le_of_lt (ltb-false low n (sym (or-false (ltb low n)) ∙ e)) l)

module _ (x : ℤ) (count datum pulse_length : ℕ) where
  abbrev pub at : Asked
  at = record { checks = []; micrometres = Some x }

  abbrev pub micrometres : ℤ
  micrometres = exact x (pulses count datum) pulse_length

  pub bad_length : bad_pulse_length pulse_length ≡ true → refused 12 ≡ place at count datum pulse_length
  unfolding place checks_of first_refusal
  bad_length h = rw h

  pub beyond : bad_pulse_length pulse_length ≡ false → outside micrometres ≡ true → refused 13 ≡ place at count datum pulse_length
  unfolding place checks_of first_refusal exact_of
  beyond h o = rw (h, o)

  pub within : bad_pulse_length pulse_length ≡ false → outside micrometres ≡ false → told (metres micrometres) ≡ place at count datum pulse_length
  unfolding place checks_of first_refusal exact_of
  within h o = rw (h, o)

module _ (asked : Asked) (count datum pulse_length : ℕ) where
  -- 11, where no check of a file came first.
  pub not_placeable : Numbered asked.checks → first_refusal asked.checks ≡ 0 → asked.micrometres ≡ None → refused 11 ≡ place asked count datum pulse_length
  unfolding place checks_of first_refusal
  not_placeable numbered passes nothing = rw (nothing, first_passes asked.checks _ numbered passes)

  -- A check of a file decides before all others.
  pub file_refused : (r : ℕ) → first_refusal asked.checks ≡ suc r → refused (suc r) ≡ place asked count datum pulse_length
  unfolding place checks_of
  file_refused r e = rw (first_decides asked.checks _ r e)

  -- In a file that its checks let through, a point is placed as by its reading.
  pub let_through : Numbered asked.checks → first_refusal asked.checks ≡ 0
      → place (record { checks = []; micrometres = asked.micrometres }) count datum pulse_length ≡ place asked count datum pulse_length
  unfolding place checks_of
  let_through numbered passes = rw (first_passes asked.checks _ numbered passes)

  -- What holds of every distance, and of every refusal from 1 on, holds of a placing.
  pub each_case : (P : Placement → Type 0) → ((x : Float) → P (told x)) → ((r : ℕ) → P (refused (suc r))) → P (place asked count datum pulse_length)
  unfolding place
  each_case P distance refusal = go (first_refusal (checks_of asked count datum pulse_length))
    where
      go : (n : ℕ) → P (placement_of n (exact_of asked.micrometres count datum pulse_length))
      go zero = distance _
      go (suc r) = refusal r

  -- Of a point at x whose exact micrometres are d a placing comes to one of four: what holds of each holds of it.
  pub by_checks : Numbered asked.checks → (x : ℤ) → asked.micrometres ≡ Some x → (d : ℤ) → exact x (pulses count datum) pulse_length ≡ d → (P : Placement → Type 0)
      → ((r : ℕ) → first_refusal asked.checks ≡ suc r → P (refused (suc r)))
      → (bad_pulse_length pulse_length ≡ true → P (refused 12))
      → (outside d ≡ true → P (refused 13))
      → (outside d ≡ false → P (told (metres d)))
      → P (place asked count datum pulse_length)
  by_checks numbered x at_x d is P by-file by_length by-window distance = file (first_refusal asked.checks) refl
    where
      own : (b : Bool) → bad_pulse_length pulse_length ≡ b → (o : Bool) → outside d ≡ o → P (place (at x count datum pulse_length) count datum pulse_length)
      own true bad o far = subst P (bad_length x count datum pulse_length bad) (by_length bad)
      own false good true far = subst P (beyond x count datum pulse_length good (ap outside is ∙ far)) (by-window far)
      own false good false near = subst P (ap (λ z. told (metres z)) (sym is) ∙ within x count datum pulse_length good (ap outside is ∙ near)) (distance near)

      file : (n : ℕ) → first_refusal asked.checks ≡ n → P (place asked count datum pulse_length)
      file (suc r) e = subst P (file_refused r e) (by-file r e)
      file zero e =
          subst P (ap (λ m. place (record { checks = []; micrometres = m }) count datum pulse_length) (sym at_x) ∙ let_through numbered e)
          (own (bad_pulse_length pulse_length) refl (outside d) refl)
