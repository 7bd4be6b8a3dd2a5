-- `c_capture::step_from` meets its contract: what opening says decides whether there is a walk, and its step from the place is given.
use Rattle.std.proofs.Common.{sym, ◌∙◌}
use Rattle.c_capture.proofs.Next.{refused, stepped}
use Rattle.c_capture.proofs.step_from.Goals as goal

pub returns-in_err-cursor : goal.returns-in_err-cursor
returns-in_err-cursor c = c.from_residual.ensures ∙ refused _ _ _ _ _ c.open_as.ensures (sym c.ok.ensures.value ∙ c.in_err-cursor.was)

pub returns : goal.returns
returns c = stepped _ _ _ _ _ _ _ _ c.open_as.ensures (sym c.ok.ensures.value ∙ c.in_ok-cursor.was) c.moved_on.ensures c.step.ensures
