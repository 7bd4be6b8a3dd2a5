-- The text is that of the definition, by its parts.
use Rattle.std.proofs.Common.{rules}
use Rattle.std.proofs.Output.{has_written_of_eq}
use Rattle.head_lines.proofs.Lines.{head_is}
use Rattle.head_lines.proofs.HeadLineDisplay.fmt.Goals as goal

pub returns-clause-writes : goal.returns-clause-writes
returns-clause-writes g c = λ plain ok. has_written_of_eq _ _ _ _ _ (head_is _ _ (search rules) (search rules)) (c.write.ensures.writes plain ok)
