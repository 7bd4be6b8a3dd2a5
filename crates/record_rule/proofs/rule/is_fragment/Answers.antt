-- `record_rule::is_fragment` meets its contract. The bytes lie inside, so the number read is the field of flags and offset.
use Rattle.std.proofs.Common.{sym, ◌∙◌, arith, ◌+◌}
use Rattle.fields.specs.Number.{big}
use Rattle.fields.proofs.Opened.{is_number, never_missing}
use Rattle.record_rule.specs.Ipv4.{flags_and_offset}
use Rattle.record_rule.proofs.Tests.{fragment_is}
use Rattle.record_rule.proofs.rule.is_fragment.Goals as goal

pub returns-in_default : goal.returns-in_default
returns-in_default c = never_missing _ big 2 c.args.bytes.now (c.args.ip + 6) (omega arith) (sym c.in_default.is ∙ c.read.ensures)

pub returns : goal.returns
unfolding flags_and_offset
returns c =
    fragment_is c.args.bytes.now _ (is_number _ big 2 c.args.bytes.now (c.args.ip + 6) (omega arith) (sym c.in-Some.is ∙ c.read.ensures) ∙ rw c.requires.1)
