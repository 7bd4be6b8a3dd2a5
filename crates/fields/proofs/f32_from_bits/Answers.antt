-- `fields::f32_from_bits` meets its contract. The test tells the patterns that are a NaN's from the others (`nan_bits_above`), and 0.0 / 0.0 is the NaN.
use Rattle.std.proofs.Common.{◌≡◌, refl, sym, ◌∙◌, subst, Bool, true, not, T, Float, lt-ltb, le-ltb}
use Rattle.std.specs.Float.Ieee.{nan, inf, fin, binary32, div, of_bits, is_nan}
use Rattle.std.specs.Float.Ieee.Bits.{nan_bits_is, nan_bits_above}
use Rattle.fields.proofs.f32_from_bits.Goals as goal

-- 0.0 / 0.0 as MIR has it, with 0.0 by its pattern
zero_by_zero : div binary32 (of_bits binary32 0) (of_bits binary32 0) ≡ nan
unfolding div of_bits
zero_by_zero = refl

is-nan : (x : Float) → is_nan x ≡ true → x ≡ nan
unfolding is_nan
is-nan nan h = refl
is-nan (inf s) h = absurd (subst (λ (b : Bool). T (not b)) h tt)
is-nan (fin s m e) h = absurd (subst (λ (b : Bool). T (not b)) h tt)

pub float_from_bits-result : goal.float_from_bits-result
float_from_bits-result c = rw (nan_bits_above binary32 c.args.bits, le-ltb _ _ c.if-bits-gt2139095040.false) tt

pub returns-then-bits-gt2139095040 : goal.returns-then-bits-gt2139095040
returns-then-bits-gt2139095040 c = let bits = c.args.bits in
    zero_by_zero ∙ sym (is-nan (of_bits binary32 bits) (sym (nan_bits_is binary32 bits) ∙ nan_bits_above binary32 bits ∙ lt-ltb _ _ c.if-bits-gt2139095040.true))
