-- The last three bytes of a text that is cut are the dots that are looked for.
use Rattle.std.proofs.Common.{refl, ◌∙◌}
use Rattle.console.proofs.may_be_cut.Goals as goal

pub returns : goal.returns
returns c = λ dots. c.ends_with.ensures.value ∙ rw dots refl
