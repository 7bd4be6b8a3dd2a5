-- The number is made of the unsigned one, if there is one.
use Rattle.std.proofs.Common.{Some, ap, ◌∙◌}
use Rattle.fields.proofs.Laws.{mapped}
use Rattle.fields.proofs.F32Field.read.Goals as goal

pub returns-in_err-bits : goal.returns-in_err-bits
returns-in_err-bits c = c.from_residual.ensures ∙ mapped _ (λ n. n) _ 4 _ _ c.in_err-bits.ensures

pub returns : goal.returns
returns c = ap Some c.f32_from_bits.ensures ∙ mapped _ (λ n. n) _ 4 _ _ c.in_ok-bits.ensures
