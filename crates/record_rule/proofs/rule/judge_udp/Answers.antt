-- `record_rule::judge_udp` meets its contract. The UDP header stands where the definition says (`udp_is`), and the lists of tests are made one after the other.
use Rattle.std.proofs.Common.{sym, ◌∙◌, arith, rules, ◌≡◌, Err}
use Rattle.record_rule.specs.Record.{udp_tests}
use Rattle.record_rule.proofs.Tests.{udp_is, fits, stops, goes_on}
use Rattle.record_rule.proofs.rule.judge_udp.Goals as goal

pub check_udp_header-requires : goal.check_udp_header-requires
check_udp_header-requires c = (udp_is _ _ _ c.requires.1 c.requires.3, omega arith)

pub check_udp_header-requires-in-Savefile : goal.check_udp_header-requires-in-Savefile
check_udp_header-requires-in-Savefile c = (udp_is _ _ _ c.requires.1 c.requires.3, omega arith)

pub to_record_end-requires : goal.to_record_end-requires
to_record_end-requires c = fits _ _ _ (udp_is _ _ _ c.requires.1 c.requires.3) (sym c.check_udp_header.ensures ∙ c.in_ok-check_udp_header-in-Rust.was)

pub to_udp_length-requires : goal.to_udp_length-requires
to_udp_length-requires c = fits _ _ _ (udp_is _ _ _ c.requires.1 c.requires.3) (sym c.check_udp_header-in-Savefile.ensures ∙ c.in_ok-check_udp_header-in-Savefile.was)

pub returns-in_err-check_udp_header-in-Rust : goal.returns-in_err-check_udp_header-in-Rust
unfolding udp_tests
returns-in_err-check_udp_header-in-Rust c =
    let refused : c.from_residual.result ≡ Err c.in_err-check_udp_header-in-Rust.field-0.0 = search rules in
    rw (c.in-Rust.is, refused) (stops _ _ _ _ (sym c.check_udp_header.ensures ∙ c.in_err-check_udp_header-in-Rust.was))

pub returns-in_ok-check_udp_header-in-Rust : goal.returns-in_ok-check_udp_header-in-Rust
unfolding udp_tests
returns-in_ok-check_udp_header-in-Rust c =
    rw c.in-Rust.is (c.to_record_end.ensures ∙ goes_on _ _ _ (sym c.check_udp_header.ensures ∙ c.in_ok-check_udp_header-in-Rust.was))

pub returns-in_err-check_ip_header-in-Savefile : goal.returns-in_err-check_ip_header-in-Savefile
unfolding udp_tests
returns-in_err-check_ip_header-in-Savefile c =
    let refused : c.from_residual-in_err-check_ip_header-in-Savefile.result ≡ Err c.in_err-check_ip_header-in-Savefile.field-0.0 = search rules in
    rw (c.in-Savefile.is, refused) (stops _ _ _ _ (sym c.check_ip_header.ensures ∙ c.in_err-check_ip_header-in-Savefile.was))

pub returns-in_err-check_udp_header-in-Savefile : goal.returns-in_err-check_udp_header-in-Savefile
unfolding udp_tests
returns-in_err-check_udp_header-in-Savefile c =
    let refused : c.from_residual-in_err-check_udp_header-in-Savefile.result ≡ Err c.in_err-check_udp_header-in-Savefile.field-0.0 = search rules in
    rw (c.in-Savefile.is, refused)
    (stops _ _ _ _ (sym c.check_udp_header-in-Savefile.ensures ∙ c.in_err-check_udp_header-in-Savefile.was)
    ∙ goes_on _ _ _ (sym c.check_ip_header.ensures ∙ c.in_ok-check_ip_header-in-Savefile.was))

pub returns-in_ok-check_udp_header-in-Savefile : goal.returns-in_ok-check_udp_header-in-Savefile
unfolding udp_tests
returns-in_ok-check_udp_header-in-Savefile c =
    rw c.in-Savefile.is
    (c.to_udp_length.ensures
    ∙ goes_on _ _ _ (sym c.check_udp_header-in-Savefile.ensures ∙ c.in_ok-check_udp_header-in-Savefile.was)
    ∙ goes_on _ _ _ (sym c.check_ip_header.ensures ∙ c.in_ok-check_ip_header-in-Savefile.was))
