-- `record_rule::judge` meets its contract. What code reads are the definition's fields, and each way out is a case of its tests.
-- Four answers have the same `is`, as the context `c` of each has another type.
use Rattle.std.proofs.Common.{◌∙◌, arith, rules, le-ltb, eq-eqb, ne_eqb, ℕ, ◌≤◌, ◌≡◌, List, length, Some}
use Rattle.fields.specs.Number.{big, field}
use Rattle.fields.proofs.Opened.{is_number, never_missing}
use Rattle.record_rule.specs.Ethernet.{type_at}
use Rattle.record_rule.specs.declared.reading.Reading.{Reading}
use Rattle.record_rule.specs.Record.{first_that, verdict}
use Rattle.record_rule.proofs.Tests.{ether_is, ip_is, ihl_is, short_record, verdict_at, verdict_is}
use Rattle.record_rule.proofs.rule.judge.Goals as goal

-- The tests from the length on, by the EtherType that is read.
judged : (reading : Reading) (port : ℕ) (bytes : List ℕ) (at n : ℕ) → 42 ≤ length bytes → at ≤ 16 → at ≡ type_at bytes → Some n ≡ field (λ n. n) big 2 bytes at
    → verdict_at reading port bytes at n ≡ verdict reading port bytes
judged reading port bytes at n long near is e = verdict_is reading port bytes at n is (is_number (λ n. n) big 2 bytes at (omega arith) e ∙ ether_is bytes at is)

pub returns-then-bytes-lt42 : goal.returns-then-bytes-lt42
returns-then-bytes-lt42 c = short_record _ _ _ c.if-bytes-lt42.true

pub returns-in_default : goal.returns-in_default
returns-in_default c = never_missing _ big 2 _ _ (omega arith) c.in_default.ensures

pub returns-then-ether_type-ne2048 : goal.returns-then-ether_type-ne2048
unfolding first_that
returns-then-ether_type-ne2048 c =
    let is = judged c.args.reading c.args.port _ _ _ c.if-bytes-lt42.false c.type_at-type_at.ensures.near c.type_at-type_at.ensures.place c.in-Some.ensures in
    rw (le-ltb _ _ c.if-bytes-lt42.false, ne_eqb _ _ c.if-ether_type-ne2048.true) at is

pub returns-then-first-ne4 : goal.returns-then-first-ne4
unfolding first_that
returns-then-first-ne4 c =
    let is = judged c.args.reading c.args.port _ _ _ c.if-bytes-lt42.false c.type_at-type_at.ensures.near c.type_at-type_at.ensures.place c.in-Some.ensures in
    rw (le-ltb _ _ c.if-bytes-lt42.false, eq-eqb _ _ c.if-ether_type-ne2048.false, ne_eqb _ _ c.if-first-ne4.true) at is

pub returns-then-bytes-ip-ne17 : goal.returns-then-bytes-ip-ne17
unfolding first_that
returns-then-bytes-ip-ne17 c =
    let is = judged c.args.reading c.args.port _ _ _ c.if-bytes-lt42.false c.type_at-type_at.ensures.near c.type_at-type_at.ensures.place c.in-Some.ensures in
    rw (le-ltb _ _ c.if-bytes-lt42.false, eq-eqb _ _ c.if-ether_type-ne2048.false, eq-eqb _ _ c.if-first-ne4.false, ne_eqb _ _ c.if-bytes-ip-ne17.true) at is

pub judge_udp-requires : goal.judge_udp-requires
judge_udp-requires c =
    let at = c.type_at-type_at.ensures.place in
    (search rules, ip_is _ _ at, omega arith, c.from.ensures ∙ ihl_is _ _ at, search rules)

pub returns : goal.returns
unfolding first_that
returns c =
    let is = judged c.args.reading c.args.port _ _ _ c.if-bytes-lt42.false c.type_at-type_at.ensures.near c.type_at-type_at.ensures.place c.in-Some.ensures in
    c.judge_udp.ensures ∙ rw (le-ltb _ _ c.if-bytes-lt42.false, eq-eqb _ _ c.if-ether_type-ne2048.false, eq-eqb _ _ c.if-first-ne4.false, eq-eqb _ _ c.if-bytes-ip-ne17.false) at is
