-- `capture::Cursor::step` meets its contract. The loop's invariant: from the place reached the walk yields what it yields from the cursor on. A record that is
-- passed over moves the place after it, and a payload is the first of them.
use Rattle.std.proofs.Common.{◌-◌, ◌≡◌, length}
use Rattle.capture.specs.Payloads.{yields_from}
use Rattle.capture.proofs.walk.Cursor.step.Given as goal

abbrev pub invariant-loop-record : goal.invariant-loop-record
invariant-loop-record l = yields_from l.reading l.format l.port l.«data» l.initial.at ≡ yields_from l.reading l.format l.port l.«data» l.at

abbrev pub decreases-loop-record : goal.decreases-loop-record
decreases-loop-record l = length l.«data» - l.at
