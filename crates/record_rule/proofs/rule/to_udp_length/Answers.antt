-- `record_rule::to_udp_length` meets its contract. The bytes lie inside, so the number read is the UDP length.
use Rattle.std.proofs.Common.{sym, ◌∙◌, arith, ℕ, ◌+◌, ◌≤◌, ◌≡◌, List, length, Some}
use Rattle.fields.specs.Number.{big, field}
use Rattle.fields.proofs.Opened.{is_number, never_missing}
use Rattle.record_rule.specs.Ipv4.{udp_start}
use Rattle.record_rule.specs.Udp.{udp_length, held_from_udp, bad_udp_length, payload_start, payload_len}
use Rattle.record_rule.specs.Record.{first_that}
use Rattle.record_rule.proofs.rule.to_udp_length.Goals as goal

stated_is : (bytes : List ℕ) (udp n stated : ℕ) → (udp ≡ udp_start bytes) × (udp + 8 ≤ length bytes) → stated ≡ n → Some n ≡ field (λ n. n) big 2 bytes (udp + 4)
    → stated ≡ udp_length bytes
unfolding udp_length
stated_is bytes udp n stated is from read = from ∙ is_number (λ n. n) big 2 bytes (udp + 4) (omega arith) read ∙ rw is.0

pub returns-in_default : goal.returns-in_default
returns-in_default c = never_missing _ big 2 c.args.bytes.now (c.args.udp + 4) (omega arith) (sym c.in_default.is ∙ c.read.ensures)

pub returns-then-is_bad_length : goal.returns-then-is_bad_length
unfolding first_that held_from_udp bad_udp_length
returns-then-is_bad_length c =
    let is = stated_is _ _ _ _ c.requires c.from-stated.ensures (sym c.in-Some.is ∙ c.read.ensures) in
    rw (← c.requires.0, ← is, sym c.is_bad_length.ensures ∙ c.if-is_bad_length.true)

pub returns : goal.returns
unfolding first_that held_from_udp bad_udp_length payload_start payload_len
returns c =
    let is = stated_is _ _ _ _ c.requires c.from-stated.ensures (sym c.in-Some.is ∙ c.read.ensures) in
    rw (← c.requires.0, ← is, sym c.is_bad_length.ensures ∙ c.if-is_bad_length.false)
