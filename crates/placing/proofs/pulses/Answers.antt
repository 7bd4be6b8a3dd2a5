-- `placing::pulses` meets its contract: the wrapped difference, read with its sign.
use Rattle.std.proofs.Common.{ap, ◌∙◌, w32, refl, arith}
use Rattle.std.proofs.lemmas.Int.{to_z-of_z}
use Rattle.fields.specs.Signed.{signed}
use Rattle.fields.proofs.Signed.{signed_is}
use Rattle.placing.specs.Placing.{pulses}
use Rattle.placing.proofs.pulses.Goals as goal

pub returns : goal.returns
unfolding pulses
returns c =
    let held = to_z-of_z w32 c.cast_signed.result (record { sfits = c.cast_signed.type_inv }) in
    held ∙ c.cast_signed.ensures ∙ signed_is w32 c.wrapped.result refl refl (omega arith) ∙ ap (signed 32) c.wrapped.ensures
