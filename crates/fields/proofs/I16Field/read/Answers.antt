-- The number is made of the unsigned one, if there is one.
use Rattle.std.proofs.Common.{◌∙◌, refl, arith}
use Rattle.std.specs.Int.{w16}
use Rattle.fields.proofs.Laws.{mapped}
use Rattle.fields.proofs.Signed.{signed_field}
use Rattle.fields.proofs.I16Field.read.Goals as goal

pub returns-in_err-n : goal.returns-in_err-n
returns-in_err-n c = c.from_residual.ensures ∙ mapped _ (λ n. n) _ 2 _ _ c.in_err-n.ensures

pub returns : goal.returns
returns c = signed_field w16 _ refl refl _ _ _ _ (record { sfits = c.cast_signed.type_inv }) c.cast_signed.ensures (omega arith) c.in_ok-n.ensures
