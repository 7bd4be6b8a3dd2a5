-- The record's rule: the places that code computes, tests made one after the other, and that a payload lies inside its record.
use Rattle.std.proofs.Common.{refl, subst, arith, mul_comm, leb-false, ltb-false, lt-ltb, eq-eqb, ne_eqb, inl, inr, ℕ, ◌+◌, ◌*◌, ◌/◌, ◌%◌, ◌≤◌, ◌<◌, ◌≡◌, Bool, true, false, not, cond, List, [], ◌∷◌, ◌++◌, ltb, eqb, length, get_or, Result, Ok, Err}
use Rattle.std.proofs.lemmas.Bool.{or_parts}
use Rattle.std.proofs.lemmas.Bool.Decides.{eqb_tells}
use Rattle.fields.specs.Number.{big, unsigned_at}
use Rattle.record_rule.specs.declared.reading.Reading.{Reading}
use Rattle.record_rule.specs.declared.reading.Reading.TheVariants.{Rust, Savefile}
use Rattle.record_rule.specs.declared.rule.Part.{Part}
use Rattle.record_rule.specs.declared.rule.PassedOver.{PassedOver}
use Rattle.record_rule.specs.declared.rule.PassedOver.TheVariants.{ShortRecord, NotIpv4, WrongVersion, NotUdp}
use Rattle.record_rule.specs.Ethernet.{type_at, ether_type, ip_start}
use Rattle.record_rule.specs.Ipv4.{version, ihl, flags_and_offset, more_fragments, fragment_offset, is_fragment, protocol, udp_start}
use Rattle.record_rule.specs.Udp.{udp_length, held_from_udp, bad_udp_length, payload_start, payload_len}
use Rattle.record_rule.specs.Record.{Verdict, first_that, ip_tests, udp_header_tests, udp_tests, payload_of, verdict}

-- ---- the places that code computes
module _ (bytes : List ℕ) (at : ℕ) (e : at ≡ type_at bytes) where
  pub ether_is : unsigned_at big 2 bytes at ≡ ether_type bytes
  unfolding ether_type
  ether_is = rw e

  pub ip_is : at + 2 ≡ ip_start bytes
  unfolding ip_start
  ip_is = rw e

  pub ihl_is : get_or bytes (at + 2) 0 % 16 ≡ ihl bytes
  unfolding ihl
  ihl_is = rw ip_is

pub udp_is : (bytes : List ℕ) (ip words : ℕ) → ip ≡ ip_start bytes → words ≡ ihl bytes → ip + words * 4 ≡ udp_start bytes
unfolding udp_start
udp_is bytes ip words i w = rw (i, w, mul_comm (ihl bytes) 4)

-- The low 14 bits of the field are more-fragments and the offset.
pub fragment_is : (bytes : List ℕ) (n : ℕ) → n ≡ flags_and_offset bytes → not (eqb (n % 0x4000) 0) ≡ is_fragment bytes
unfolding is_fragment more_fragments fragment_offset
fragment_is bytes n e =
    rw (← e)
    (elim (eqb_tells (n / 0x2000 % 2) 1) [
      | inl more ↦ rw (more.0, ne_eqb (n % 0x4000) 0 (λ none. omega arith))
      | inr last ↦
          elim (eqb_tells (n % 0x2000) 0) [
            | inl first ↦ rw (last.0, first.0, eq-eqb (n % 0x4000) 0 (omega arith))
            | inr later ↦ rw (last.0, later.0, ne_eqb (n % 0x4000) 0 (λ none. later.1 (omega arith)))
          ]
    ])

-- ---- the tests up to the protocol, where the EtherType stands at a place
module _ (reading : Reading) (port : ℕ) (bytes : List ℕ) where
  module _ (at ether : ℕ) where
    abbrev pub verdict_at : Verdict
    verdict_at =
        first_that
        ((ShortRecord, ltb (length bytes) 42)
        ∷ (NotIpv4, not (eqb ether 0x0800))
        ∷ (WrongVersion, not (eqb (get_or bytes (at + 2) 0 / 16) 4))
        ∷ (NotUdp, not (eqb (get_or bytes (at + 2 + 9) 0) 17))
        ∷ [])
        (first_that (udp_tests reading port bytes) (payload_of reading bytes))

    pub verdict_is : at ≡ type_at bytes → ether ≡ ether_type bytes → verdict_at ≡ verdict reading port bytes
    unfolding verdict first_that ip_tests version protocol
    verdict_is e t = rw (ip_is bytes at e, t)

  pub short_record : length bytes < 42 → Err ShortRecord ≡ verdict reading port bytes
  unfolding verdict first_that ip_tests
  short_record h = rw (lt-ltb (length bytes) 42 h)

-- ---- where none applies
abbrev NoneApplies : List (PassedOver × Bool) → Type 0
NoneApplies [] = Unit
NoneApplies (test ∷ tests) = (test.1 ≡ false) × NoneApplies tests

module _ {A : Type 0} where
  past : (why : PassedOver) (rest : Result A PassedOver) (b : Bool) (a : A) → cond b (Err why) rest ≡ Ok a → (b ≡ false) × (rest ≡ Ok a)
  past why rest true a h = absurd (cc)
  past why rest false a h = (refl, h)

  all_past : (tests : List (PassedOver × Bool)) (otherwise : Result A PassedOver) (a : A) → first_that tests otherwise ≡ Ok a → NoneApplies tests × (otherwise ≡ Ok a)
  unfolding first_that
  all_past [] otherwise a h = (tt, h)
  all_past (test ∷ tests) otherwise a h =
      let one = past test.0 (first_that tests otherwise) test.1 a h in
      let rest = all_past tests otherwise a one.1 in
      ((one.0, rest.0), rest.1)

-- ---- tests made one after the other
module _ {A : Type 0} where
  -- None of the first ones applies: the others decide.
  pub goes_on : (tests rest : List (PassedOver × Bool)) (otherwise : Result A PassedOver) → first_that tests (Ok (tt {0})) ≡ Ok (tt {0}) → first_that rest otherwise ≡ first_that (tests ++ rest) otherwise
  unfolding first_that
  goes_on [] rest otherwise h = refl
  goes_on (test ∷ tests) rest otherwise h = let one = past test.0 (first_that tests (Ok (tt {0}))) test.1 (tt {0}) h in rw one.0 (goes_on tests rest otherwise one.1)

  -- One of them applies, and the others do not matter.
  pub stops : (tests rest : List (PassedOver × Bool)) (otherwise : Result A PassedOver) (why : PassedOver) → first_that tests (Ok (tt {0})) ≡ Err why → Err why ≡ first_that (tests ++ rest) otherwise
  unfolding first_that
  stops [] rest otherwise why h = absurd (cc)
  stops (test ∷ tests) rest otherwise why h = cases test.1 h (stops tests rest otherwise why)
    where
      cases : (b : Bool)
          → cond b (Err test.0) (first_that tests (Ok (tt {0}))) ≡ Err why
          → (first_that tests (Ok (tt {0})) ≡ Err why → Err why ≡ first_that (tests ++ rest) otherwise)
          → Err why ≡ cond b (Err test.0) (first_that (tests ++ rest) otherwise)
      cases true h later = cc
      cases false h later = later h

-- Where the tests of the UDP header pass, it fits.
pub fits : (port : ℕ) (bytes : List ℕ) (udp : ℕ) → udp ≡ udp_start bytes → first_that (udp_header_tests port bytes) (Ok (tt {0})) ≡ Ok (tt {0}) → (udp ≡ udp_start bytes) × (udp + 8 ≤ length bytes)
unfolding udp_header_tests payload_start
fits port bytes udp is h =
    let inside = ltb-false _ _ (all_past (udp_header_tests port bytes) (Ok (tt {0})) (tt {0}) h).0.0 in
    (is, omega arith)

-- ---- a payload lies inside its record, and is not empty
-- A good UDP length has a payload, and lies inside the record.
good_length : (bytes : List ℕ) → bad_udp_length bytes ≡ false → (9 ≤ udp_length bytes) × (udp_length bytes ≤ held_from_udp bytes)
unfolding bad_udp_length
good_length bytes e =
    let both = or_parts _ _ e in
    (ltb-false _ _ both.0, ltb-false _ _ both.1)

lies_inside : (reading : Reading) (port : ℕ) (bytes : List ℕ) → NoneApplies (ip_tests bytes ++ udp_tests reading port bytes)
    → (payload_start bytes + payload_len reading bytes ≤ length bytes) × (0 < payload_len reading bytes)
unfolding ip_tests udp_header_tests udp_tests payload_start payload_len held_from_udp
lies_inside Rust port bytes none = let follows = leb-false (length bytes) (payload_start bytes) none.1.1.1.1.1.1.0 in (omega arith, omega arith)
lies_inside Savefile port bytes none = let good = good_length bytes none.1.1.1.1.1.1.1.1.0 in (omega arith, omega arith)

pub payload_inside : (reading : Reading) (port : ℕ) (bytes : List ℕ) (part : Part) → verdict reading port bytes ≡ Ok part → (part.start + part.len ≤ length bytes) × (0 < part.len)
unfolding verdict
payload_inside reading port bytes part h =
    let all = all_past (ip_tests bytes ++ udp_tests reading port bytes) (payload_of reading bytes) part h in
    let is : record { start = payload_start bytes; len = payload_len reading bytes } ≡ part = cc all.1 in
    subst (λ (p : Part). (p.start + p.len ≤ length bytes) × (0 < p.len)) is (lies_inside reading port bytes all.0)
