-- `record_rule::type_at` meets its contract. The EtherType at 12 tells whether there is a tag.
use Rattle.std.proofs.Common.{sym, ◌∙◌, arith, eq-eqb, ne_eqb, ◌≡◌}
use Rattle.fields.specs.Number.{big, unsigned_at}
use Rattle.fields.proofs.Opened.{is_number, never_missing}
use Rattle.record_rule.specs.Ethernet.{type_at}
use Rattle.record_rule.proofs.rule.type_at.Goals as goal

pub returns-in_default : goal.returns-in_default
returns-in_default c = never_missing _ big 2 _ _ (omega arith) (sym c.in_default.is ∙ c.read.ensures)

pub returns-then-first_type-clause-place : goal.returns-then-first_type-clause-place
unfolding type_at
returns-then-first_type-clause-place c =
    let read : c.in-Some.first_type ≡ unsigned_at big 2 c.args.bytes.now 12 = is_number _ big 2 _ _ (omega arith) (sym c.in-Some.is ∙ c.read.ensures) in
    rw (eq-eqb _ _ (sym read ∙ c.if-first_type.true))

pub returns-else-first_type-clause-place : goal.returns-else-first_type-clause-place
unfolding type_at
returns-else-first_type-clause-place c =
    let read : c.in-Some.first_type ≡ unsigned_at big 2 c.args.bytes.now 12 = is_number _ big 2 _ _ (omega arith) (sym c.in-Some.is ∙ c.read.ensures) in
    rw (ne_eqb _ _ (λ e. c.if-first_type.false (read ∙ e)))
