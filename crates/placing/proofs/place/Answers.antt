-- `placing::place` meets its contract: the kinds' readings times their micrometres, which 64 bits hold, and 11 for the others. Demand 3 follows (`both`).
use Rattle.std.proofs.Common.{◌≡◌, ℕ, [], ℤ, pos, ◌*ℤ◌, sym, refl, ap, ◌∙◌, arith, w16, w32, w64, Option, None, Some}
use Rattle.std.proofs.lemmas.Int.{to_z-of_z}
use Rattle.points.specs.ReadInto.{first_refusal}
use Rattle.livox_stored.specs.declared.StoredReading.{StoredReading}
use Rattle.livox_stored.specs.Stored.{of_stored_reading}
use Rattle.placing.specs.Placing.{along, by_reading, place, Placement}
use Rattle.placing.specs.Accuracy.{Accurate}
use Rattle.placing.proofs.Accuracy.{both, seen}
use Rattle.placing.proofs.Checks.{not_placeable}
use Rattle.placing.proofs.place.Goals as goal

-- what code placed at m, where the match found that the reading is r
module _ {reading r : StoredReading} (is : reading ≡ r) (count datum pulse_length : ℕ) {placement : Placement} (m : Option ℤ) where
  placed : placement ≡ place (record { checks = []; micrometres = m }) count datum pulse_length → m ≡ along (of_stored_reading r)
      → (placement ≡ place (by_reading (of_stored_reading reading)) count datum pulse_length) × Accurate [] (Some (of_stored_reading reading)) count datum pulse_length placement
  placed e at-m =
      both (by_reading (of_stored_reading reading)) tt (Some (of_stored_reading reading)) (seen (of_stored_reading reading)) count datum pulse_length
      (e ∙ ap (λ n. place (record { checks = []; micrometres = n }) count datum pulse_length) (at-m ∙ ap (λ q. along (of_stored_reading q)) (sym is)))

pub returns-in-Millimetres-clause-accurate : goal.returns-in-Millimetres-clause-accurate
returns-in-Millimetres-clause-accurate c =
    let x = c.in-Millimetres.x.0 in
    let times = c.times in
    let held = to_z-of_z w32 x (omega arith) in
    (placed c.in-Millimetres.is _ _ _ _ c.place_along.ensures (ap Some (to_z-of_z w64 times.result (record { sfits = times.type_inv }) ∙ times.ensures.value ∙ ap (λ (z : ℤ). z *ℤ pos _) held))).1

pub returns-in-TenMillimetres-clause-accurate : goal.returns-in-TenMillimetres-clause-accurate
returns-in-TenMillimetres-clause-accurate c =
    let x = c.in-TenMillimetres.x.0 in
    let times = c.times-in-TenMillimetres in
    let held = to_z-of_z w32 c.from.result (record { sfits = c.from.type_inv }) ∙ c.from.ensures ∙ to_z-of_z w16 x (omega arith) in
    (placed c.in-TenMillimetres.is _ _ _ _ c.place_along-in-TenMillimetres.ensures (ap Some (to_z-of_z w64 times.result (record { sfits = times.type_inv }) ∙ times.ensures.value ∙ ap (λ (z : ℤ). z *ℤ pos _) held))).1

pub returns-in-Spherical-clause-placed : goal.returns-in-Spherical-clause-placed
unfolding first_refusal
returns-in-Spherical-clause-placed c = (placed c.in-Spherical.is _ _ _ None (not_placeable _ _ _ _ tt refl refl) refl).0

pub returns-in-Float-clause-placed : goal.returns-in-Float-clause-placed
unfolding first_refusal
returns-in-Float-clause-placed c = (placed c.in-Float.is _ _ _ None (not_placeable _ _ _ _ tt refl refl) refl).0
