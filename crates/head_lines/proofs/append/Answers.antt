-- The part of the line that the text fills is lent to the copy.
use Rattle.head_lines.proofs.Bytes.{copied}
use Rattle.head_lines.proofs.append.Goals as goal

pub returns : goal.returns
returns c = copied c.args.text.now c.args.line.now c.args.at c.copy_from_slice.ensures.after
