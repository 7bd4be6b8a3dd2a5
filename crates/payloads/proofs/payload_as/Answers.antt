-- `payloads::payload_as` meets its contract: with the default for none, the place is that of the definition (`is_place`), and it starts inside the capture.
use Rattle.std.proofs.Common.{◌≡◌, ◌∙◌, min, ℕ, arith, List, length, ap, subst, Option, unwrap_or}
use Rattle.record_rule.specs.declared.reading.Reading.{Reading}
use Rattle.capture.specs.declared.walk.Place.{Place}
use Rattle.capture.specs.Payloads.{nowhere, place_of, place_of_rank, PartAt}
use Rattle.capture.proofs.Handed.{part_inside, handed_of_rank, by_default}
use Rattle.payloads.proofs.payload_as.Goals as goal

module _ (reading : Reading) (port rank : ℕ) (bytes : List ℕ) where
  is_place : {found : Option Place} {place : Place} → found ≡ place_of_rank reading port rank bytes → place ≡ unwrap_or found nowhere → place ≡ place_of reading port rank bytes
  is_place e f = f ∙ rw e (handed_of_rank reading port rank bytes)

  starts_inside : min (place_of reading port rank bytes).start (length bytes) ≡ (place_of reading port rank bytes).start
  starts_inside = omega (arith, part_inside reading port rank bytes)

pub returns-clause-contents : goal.returns-clause-contents
returns-clause-contents c =
    rw (← is_place _ _ _ _ c.payload_place_as.ensures (by_default _ _ c.unwrap_or_default-place.ensures)) c.bytes.ensures.contents

pub returns-clause-place : goal.returns-clause-place
returns-clause-place c =
    let a = c.args in
    let is = is_place _ _ _ _ c.payload_place_as.ensures (by_default _ _ c.unwrap_or_default-place.ensures) in
    subst (λ start. PartAt start a.«data».ref_ptr c.bytes.result.ref_ptr) (ap (λ (p : Place). min p.start (length a.«data».now)) is ∙ starts_inside a.reading a.port a.rank a.«data».now) c.bytes.ensures.place

pub returns-clause-time : goal.returns-clause-time
returns-clause-time c =
    ap (λ (p : Place). p.time) (is_place _ _ _ _ c.payload_place_as.ensures (by_default _ _ c.unwrap_or_default-place.ensures))
