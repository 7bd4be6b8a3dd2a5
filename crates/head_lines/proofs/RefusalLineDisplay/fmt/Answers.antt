-- The text is that of the definition, by its parts.
use Rattle.std.proofs.Common.{rules}
use Rattle.std.proofs.Output.{has_written_of_eq}
use Rattle.head_lines.proofs.Lines.{no_room_is, other_is}
use Rattle.head_lines.proofs.RefusalLineDisplay.fmt.Goals as goal

pub returns-in-NoRoom-clause-writes : goal.returns-in-NoRoom-clause-writes
returns-in-NoRoom-clause-writes g c = λ plain ok. has_written_of_eq _ _ _ _ _ (no_room_is c.args.self.now.0 _ c.number-number.ensures (search rules) _ (search rules) (search rules) (search rules)) (c.write.ensures.writes plain ok)

pub returns-in_default : goal.returns-in_default
returns-in_default g c = record { writes = λ plain ok. has_written_of_eq _ _ _ _ _ (other_is c.args.self.now.0 _ c.number-number.ensures (search rules) (search rules)) (c.write-in_default.ensures.writes plain ok); styled = tt }
