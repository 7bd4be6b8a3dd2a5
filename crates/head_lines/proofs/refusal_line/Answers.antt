-- Each call puts the next part of the definition after the last.
use Rattle.std.proofs.Common.{sym, ◌∙◌}
use Rattle.head_lines.proofs.Bytes.{no_room_line, other_line}
use Rattle.head_lines.proofs.refusal_line.Goals as goal

pub returns-then-number-eq-NO_ROOM-clause-value : goal.returns-then-number-eq-NO_ROOM-clause-value
returns-then-number-eq-NO_ROOM-clause-value c =
    (no_room_line c.args.refusal _ (c.from.ensures ∙ c.number-number.ensures) c.append_number-at.ensures.appended (sym c.number-number.ensures ∙ c.if-number-eq-NO_ROOM.true) c.points_needed.ensures c.append_number-at-then-number-eq-NO_ROOM.ensures.appended c.append.ensures).0

pub returns-then-number-eq-NO_ROOM-clause-line_written : goal.returns-then-number-eq-NO_ROOM-clause-line_written
returns-then-number-eq-NO_ROOM-clause-line_written c =
    (no_room_line c.args.refusal _ (c.from.ensures ∙ c.number-number.ensures) c.append_number-at.ensures.appended (sym c.number-number.ensures ∙ c.if-number-eq-NO_ROOM.true) c.points_needed.ensures c.append_number-at-then-number-eq-NO_ROOM.ensures.appended c.append.ensures).1

pub returns-else-number-eq-NO_ROOM-clause-value : goal.returns-else-number-eq-NO_ROOM-clause-value
returns-else-number-eq-NO_ROOM-clause-value c =
    (other_line c.args.refusal _ (c.from.ensures ∙ c.number-number.ensures) c.append_number-at.ensures.appended (λ ten. c.if-number-eq-NO_ROOM.false (c.number-number.ensures ∙ ten)) c.append-else-number-eq-NO_ROOM.ensures).0

pub returns-else-number-eq-NO_ROOM-clause-line_written : goal.returns-else-number-eq-NO_ROOM-clause-line_written
returns-else-number-eq-NO_ROOM-clause-line_written c =
    (other_line c.args.refusal _ (c.from.ensures ∙ c.number-number.ensures) c.append_number-at.ensures.appended (λ ten. c.if-number-eq-NO_ROOM.false (c.number-number.ensures ∙ ten)) c.append-else-number-eq-NO_ROOM.ensures).1
