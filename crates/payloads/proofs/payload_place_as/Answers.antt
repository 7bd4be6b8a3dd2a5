-- `payloads::payload_place_as` meets its contract: what opening says decides whether there is a walk, and the walk gives the places in turn.
use Rattle.std.proofs.Common.{refl, sym, ◌∙◌, ◌≡◌, ne_eqb, option_map, Option, Some, None}
use Rattle.std.proofs.lemmas.Iterator.Consumers.{nth_from_yields_List, YieldsList-from_first}
use Rattle.capture.specs.declared.walk.Place.{Place}
use Rattle.capture.specs.Payloads.{places_from, payloads, place_of_rank}
use Rattle.capture.specs.Walked.{places_left}
use Rattle.capture.proofs.Opening.{walks, is_opened, is_refused}
use Rattle.payloads.proofs.payload_place_as.Goals as goal

pub returns-in_err-cursor : goal.returns-in_err-cursor
unfolding place_of_rank
returns-in_err-cursor c =
    let a = c.args in
    c.from_residual.ensures ∙ rw (ne_eqb _ 0 (is_refused a.reading a.port a.«data».now _ c.open_as.ensures (sym c.ok.ensures.value ∙ c.in_err-cursor.was)))

same : (found : Option Place) → found ≡ option_map (λ place. place) found
same None = refl
same (Some place) = refl

pub returns : goal.returns
unfolding payloads place_of_rank places_from
returns c =
    let a = c.args in
    let yes = walks a.reading a.port a.«data».now _ (is_opened a.reading a.port a.«data».now _ _ c.open_as.ensures (sym c.ok.ensures.value ∙ c.in_ok-cursor.was)) in
    let given = nth_from_yields_List _ c.nth.new.self _ c.nth.ensures.ran (YieldsList-from_first (λ p. p) places_left _ c.places_from.ensures.places) in
    (same c.nth.result ∙ given) ∙ rw (yes.1, yes.0)
