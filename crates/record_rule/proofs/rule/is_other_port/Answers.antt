-- `record_rule::is_other_port` meets its contract. The bytes lie inside, so the number read is the port that stands there.
use Rattle.std.proofs.Common.{sym, ◌∙◌, arith, ne_eqb, ◌≡◌, ◌+◌}
use Rattle.fields.specs.Number.{big, unsigned_at}
use Rattle.fields.proofs.Opened.{is_number, never_missing}
use Rattle.record_rule.specs.Udp.{destination_port}
use Rattle.record_rule.proofs.rule.is_other_port.Goals as goal

pub returns-in_default : goal.returns-in_default
returns-in_default c = never_missing _ big 2 c.args.bytes.now (c.args.udp + 2) (omega arith) (sym c.in_default.is ∙ c.read.ensures)

pub returns-then-port-ne0 : goal.returns-then-port-ne0
unfolding destination_port
returns-then-port-ne0 c =
    let port : c.in-Some.destination ≡ unsigned_at big 2 c.args.bytes.now (c.args.udp + 2) = is_number _ big 2 c.args.bytes.now (c.args.udp + 2) (omega arith) (sym c.in-Some.is ∙ c.read.ensures) in
    rw (← c.requires.0, port, ne_eqb _ _ c.if-port-ne0.true)
