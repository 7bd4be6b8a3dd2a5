-- Each call puts the next part of the definition after the last.
use Rattle.head_lines.proofs.Bytes.{whole_head_line}
use Rattle.head_lines.proofs.head_line.Goals as goal

pub returns-clause-value : goal.returns-clause-value
returns-clause-value c = (whole_head_line _ _ _ c.append_number-at.ensures.appended c.append_number-at-2.ensures.appended c.append.ensures).0

pub returns-clause-line_written : goal.returns-clause-line_written
returns-clause-line_written c = (whole_head_line _ _ _ c.append_number-at.ensures.appended c.append_number-at-2.ensures.appended c.append.ensures).1
