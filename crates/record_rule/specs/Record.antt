-- A record's rule: which test passes the record over, in the papers' order, or where its payload starts and how long it
-- is. Only the record's own bytes are looked at.
use Rattle.std.specs.Prelude.{ℕ, Bool, cond, not, ◌&&◌, List, [], ◌∷◌, ◌++◌, leb, ltb, eqb, length, Result, Ok, Err}
use Rattle.record_rule.specs.declared.reading.Reading.{Reading}
use Rattle.record_rule.specs.declared.reading.Reading.TheVariants.{Rust, Savefile}
use Rattle.record_rule.specs.declared.rule.Part.{Part}
use Rattle.record_rule.specs.declared.rule.PassedOver.{PassedOver}
use Rattle.record_rule.specs.declared.rule.PassedOver.TheVariants.{ShortRecord, NotIpv4, WrongVersion, NotUdp, ShortIpHeader, Fragment, UdpPastEnd, OtherPort, BadUdpLength, NothingFollows}
use Rattle.record_rule.specs.Ethernet.{ether_type}
use Rattle.record_rule.specs.Ipv4.{version, ihl, protocol, is_fragment}
use Rattle.record_rule.specs.Udp.{destination_port, bad_udp_length, payload_start, payload_len}

-- What the rule says of a record: the part that is its payload, or the test that passes the record over.
abbrev pub Verdict : Type 0
Verdict = Result Part PassedOver

-- The first test that applies decides.
unfoldable pub first_that : {A : Type 0} → List (PassedOver × Bool) → Result A PassedOver → Result A PassedOver
first_that [] otherwise = otherwise
first_that (test ∷ tests) otherwise = cond test.1 (Err test.0) (first_that tests otherwise)

-- The tests up to the protocol, which both readings have.
unfoldable pub ip_tests : List ℕ → List (PassedOver × Bool)
ip_tests bytes =
    (ShortRecord, ltb (length bytes) 42)
    ∷ (NotIpv4, not (eqb (ether_type bytes) 0x0800))
    ∷ (WrongVersion, not (eqb (version bytes) 4))
    ∷ (NotUdp, not (eqb (protocol bytes) 17))
    ∷ []

-- The tests of the UDP header, which both readings have, for the port that was asked for; port 0 asks for every port.
unfoldable pub udp_header_tests : ℕ → List ℕ → List (PassedOver × Bool)
udp_header_tests port bytes =
    (UdpPastEnd, ltb (length bytes) (payload_start bytes))
    ∷ (OtherPort, not (eqb port 0) && not (eqb (destination_port bytes) port))
    ∷ []

-- The tests from the IHL on, of which each reading has its own. In the savefile reading something always follows the
-- header: a good length leaves a byte of payload, and the record holds it.
unfoldable pub udp_tests : Reading → ℕ → List ℕ → List (PassedOver × Bool)
unfolding udp_header_tests
udp_tests Rust port bytes = udp_header_tests port bytes ++ (NothingFollows, leb (length bytes) (payload_start bytes)) ∷ []
udp_tests Savefile port bytes =
    (ShortIpHeader, ltb (ihl bytes) 5)
    ∷ (Fragment, is_fragment bytes)
    ∷ udp_header_tests port bytes
    ++ (BadUdpLength, bad_udp_length bytes) ∷ []

-- Where none applies, the record yields its payload.
abbrev pub payload_of : Reading → List ℕ → Verdict
payload_of reading bytes = Ok (record { start = payload_start bytes; len = payload_len reading bytes })

unfoldable pub verdict : Reading → ℕ → List ℕ → Verdict
unfolding first_that ip_tests udp_tests
verdict reading port bytes = first_that (ip_tests bytes ++ udp_tests reading port bytes) (payload_of reading bytes)
