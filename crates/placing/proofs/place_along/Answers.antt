-- `placing::place_along` meets its contract: the checks in their order (`Checks`), the exact micrometres in 64 bits, and inside the window a cast that loses nothing.
use Rattle.std.proofs.Common.{◌≡◌, ◌^◌, ◌<◌, false, ℕ, ℤ, pos, ◌+ℤ◌, ◌*ℤ◌, sym, ap, ◌∙◌, arith, lit≤, w32, w64, SFits, to_z, of_z}
use Rattle.std.specs.Int.Signed.{mag}
use Rattle.std.specs.Float.Ieee.{of_bits, round}
use Rattle.std.proofs.lemmas.Int.{to_z-of_z}
use Rattle.placing.specs.Placing.{bad_pulse_length, metres, outside, pulses}
use Rattle.placing.proofs.Checks.{bad_length, beyond, castable, micrometres, within}
use Rattle.placing.proofs.Whole.{sum_in}
use Rattle.placing.proofs.place_along.Goals as goal

-- the point's micrometres and the belt's, r, as 64 bits hold their sum
module _ (x r : ℤ) (fits : SFits w64 x) (near : mag x < 2 ^ 45) (ok : SFits w64 r) (small : mag r < 2 ^ 45) where
  holds : SFits w64 (x +ℤ r)
  holds = omega (arith, sum_in x r)

  sum_fits : SFits w64 (to_z w64 (of_z w64 x) +ℤ to_z w64 (of_z w64 r))
  sum_fits = rw (to_z-of_z w64 x fits, to_z-of_z w64 r ok) holds

  sum_is : to_z w64 (of_z w64 (to_z w64 (of_z w64 x) +ℤ to_z w64 (of_z w64 r))) ≡ x +ℤ r
  sum_is = to_z-of_z w64 _ sum_fits ∙ rw (to_z-of_z w64 x fits, to_z-of_z w64 r ok)

  exact_is : (count datum length : ℕ) {moved : ℤ} → r ≡ moved *ℤ pos length → moved ≡ pulses count datum
      → to_z w64 (of_z w64 (to_z w64 (of_z w64 x) +ℤ to_z w64 (of_z w64 r))) ≡ micrometres x count datum length
  exact_is count datum length value is = sum_is ∙ ap (λ z. x +ℤ z) (value ∙ ap (λ z. z *ℤ pos length) is)

pub returns-then-is_bad_pulse_length : goal.returns-then-is_bad_pulse_length
returns-then-is_bad_pulse_length c = bad_length _ _ _ _ (sym c.is_bad_pulse_length.ensures ∙ c.if-is_bad_pulse_length.true)

pub returns-then-is_outside : goal.returns-then-is_outside
returns-then-is_outside c =
    let good : bad_pulse_length c.args.belt.pulse_length.0 ≡ false = sym c.is_bad_pulse_length.ensures ∙ c.if-is_bad_pulse_length.false in
    let moved = to_z-of_z w32 _ (omega arith) ∙ c.pulses.ensures in
    let exact = exact_is _ _ c.ranges.x c.requires (record { sfits = c.times.type_inv }) c.times.ensures.bounded c.args.belt.count.0 c.args.belt.datum.0 c.args.belt.pulse_length.0 c.times.ensures.value moved in
    beyond _ _ _ _ good (ap outside (sym exact) ∙ sym c.is_outside.ensures ∙ c.if-is_outside.true)

pub int_to_float-result : goal.int_to_float-result
int_to_float-result c = castable _ _ (lit≤ tt) (lit≤ tt) _ (sym c.is_outside.ensures ∙ c.if-is_outside.false)

pub returns : goal.returns
unfolding metres of_bits round
returns c =
    let good : bad_pulse_length c.args.belt.pulse_length.0 ≡ false = sym c.is_bad_pulse_length.ensures ∙ c.if-is_bad_pulse_length.false in
    let moved = to_z-of_z w32 _ (omega arith) ∙ c.pulses.ensures in
    let exact = exact_is _ _ c.ranges.x c.requires (record { sfits = c.times.type_inv }) c.times.ensures.bounded c.args.belt.count.0 c.args.belt.datum.0 c.args.belt.pulse_length.0 c.times.ensures.value moved in
    let inside = ap outside (sym exact) ∙ sym c.is_outside.ensures ∙ c.if-is_outside.false in
    rw exact (within _ _ _ _ good inside)
