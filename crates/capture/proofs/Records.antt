-- From a place on the walk ends, or has what the record there yields and goes on after it.
use Rattle.std.proofs.Common.{ap, ◌∙◌, subst, arith, ℕ, ◌+◌, ◌-◌, ◌≤◌, ◌<◌, ◌≡◌, List, [], ◌∷◌, ◌++◌, length, take, drop, Ok}
use mathlib.Core.List.{flat_map}
use Rattle.record_rule.specs.declared.Record.{Record}
use Rattle.record_rule.specs.declared.reading.Reading.{Reading}
use Rattle.record_rule.specs.declared.rule.Part.{Part}
use Rattle.record_rule.specs.Captured.{record_bytes, record_end}
use Rattle.record_rule.specs.Record.{Verdict, verdict}
use Rattle.record_rule.proofs.Inside.{Inside, inside_length}
use Rattle.record_rule.proofs.Tests.{payload_inside}
use Rattle.savefile.specs.declared.RecordFormat.{RecordFormat}
use Rattle.savefile.specs.Savefile.{record_at, all_records_from}
use Rattle.savefile.proofs.Records.{past, onward}
use Rattle.capture.specs.Payloads.{yield_at, yield_of, yields_from}

module _ (reading : Reading) (format : RecordFormat) (port : ℕ) (bytes : List ℕ) (at : ℕ) where
  pub at_end : length bytes < record_end (record_at format bytes at) → yields_from reading format port bytes at ≡ []
  unfolding yields_from flat_map
  at_end h = rw (past format bytes (length bytes) at h)

  -- the record that is there, and code lends its bytes
  module _ (r : Record) (e : r ≡ record_at format bytes at) (h : Inside bytes r) where
    pub further : at < record_end r
    further = rw e (omega arith)

    abbrev lent : List ℕ
    lent = take (record_end r - r.body) (drop r.body bytes)

    lent_is : lent ≡ record_bytes bytes r
    lent_is = let long : record_end r - r.body ≡ r.len = omega arith in rw long

    -- what the rule says of it decides what it yields
    pub at_record : (v : Verdict) → verdict reading port lent ≡ v → yields_from reading format port bytes at ≡ yield_at r v ++ yields_from reading format port bytes (record_end r)
    unfolding yields_from yield_of flat_map
    at_record v rule =
        let all : all_records_from format bytes at ≡ r ∷ all_records_from format bytes (record_end r) = rw e (onward format bytes (length bytes) at (omega arith) (subst (Inside bytes) e h)) in
        rw (all, ← rule, lent_is)

    pub in_record : (part : Part) → verdict reading port lent ≡ Ok part → (part.start + part.len ≤ r.len) × (0 < part.len)
    in_record part rule =
        let within = payload_inside reading port lent part rule in
        let long = ap length lent_is ∙ inside_length bytes r h in
        (omega arith, within.1)
