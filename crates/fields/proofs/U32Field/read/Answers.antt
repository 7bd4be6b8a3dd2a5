-- The number of the bytes that are found, if they are, in either order.
use Rattle.std.proofs.Common.{◌∙◌}
use Rattle.fields.specs.Number.{little, big}
use Rattle.fields.proofs.Bytes.{number_found}
use Rattle.fields.proofs.Laws.{of_bytes}
use Rattle.fields.proofs.U32Field.read.Goals as goal

pub returns-in_err-bytes : goal.returns-in_err-bytes
returns-in_err-bytes c = c.from_residual.ensures ∙ of_bytes (λ n. n) _ 4 _ _ c.in_err-bytes.ensures

pub returns-in-Little : goal.returns-in-Little
returns-in-Little c = rw c.in-Little.is (number_found little 3 _ _ c.from_le_bytes.ensures c.in_ok-bytes.ensures)

pub returns-in-Big : goal.returns-in-Big
returns-in-Big c = rw c.in-Big.is (number_found big 3 _ _ c.from_be_bytes.ensures c.in_ok-bytes.ensures)
