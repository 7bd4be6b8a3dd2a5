-- The walk for C yields the payloads in order. From the place 0 all of them are to come (`all_to_come`). A step that finds a payload takes it off the front of
-- those to come (`takes_one`), and one that finds none has none to come (`takes_none`).
use Rattle.std.proofs.Common.{refl, sym, ap, arith, lt_of_not-le, ne_eqb, lt-ltb, le-ltb, ℕ, ◌≤◌, ◌≡◌, Bool, true, false, true≢false, cond, List, [], ◌∷◌, eqb, ltb, Option, Some, None}
use Rattle.std.proofs.Math.Decide.{dec_le, ℕ_discrete}
use Rattle.points.specs.ReadInto.{first_refusal}
use Rattle.record_rule.specs.declared.reading.Reading.{Reading}
use Rattle.capture.specs.declared.walk.Cursor.{Cursor}
use Rattle.capture.specs.declared.walk.Place.{Place}
use Rattle.savefile.specs.Savefile.{checks}
use Rattle.capture.specs.Payloads.{places_from, payloads, start_cursor, step_of}
use Rattle.capture.proofs.Steps.{step_end, step_payload, step_on}
use Rattle.c_capture.specs.Capture.{PayloadTold, tell_payload, moved_on, step_from, tell_step, tell_next}

-- Where the walk stands, it stands after the file header.
after_header : (at : ℕ) → 24 ≤ cond (ltb at 24) 24 at
after_header at =
    elim (dec_le 24 at) [
      | yes h ↦ rw (le-ltb at 24 h) h
      | no h ↦ rw (lt-ltb at 24 (lt_of_not-le h)) (omega arith)
    ]

module _ (reading : Reading) (port : ℕ) (bytes : List ℕ) where
  -- the walk's cursor at a place
  abbrev cursor_at : ℕ → Cursor
  cursor_at at = moved_on (start_cursor reading port bytes) at

  -- The payloads to come at a place: none where the capture is refused.
  abbrev pub accepted : List Place → List Place
  accepted places = cond (eqb (first_refusal (checks reading bytes)) 0) places []

  abbrev pub to_come : ℕ → List Place
  to_come at = accepted (places_from (cursor_at at) bytes)

  pub all_to_come : to_come 0 ≡ accepted (payloads reading port bytes)
  unfolding places_from payloads
  all_to_come = refl

  pub takes_none : (at after : ℕ) (told : PayloadTold) → tell_next reading port bytes at ≡ (false, after, told) → to_come at ≡ []
  unfolding tell_next step_from
  takes_none at after told e =
      elim (ℕ_discrete (first_refusal (checks reading bytes)) 0) [
        | yes z ↦ rw z (none (step_of (cursor_at at) bytes) refl (rw z at e))
        | no n ↦ rw (ne_eqb (first_refusal (checks reading bytes)) 0 n)
      ]
    where
      none : (s : Option (Place × Cursor)) → step_of (cursor_at at) bytes ≡ s → tell_step at s ≡ (false, after, told) → places_from (cursor_at at) bytes ≡ []
      none None q t = step_end (cursor_at at) bytes q
      none (Some (p, next)) q t = absurd (true≢false (ap (λ (x : Bool × ℕ × PayloadTold). x.0) t))

  pub takes_one : (at after : ℕ) (told : PayloadTold) → tell_next reading port bytes at ≡ (true, after, told) → (p : Place) × (tell_payload p ≡ told) × (to_come at ≡ p ∷ to_come after)
  unfolding tell_next step_from
  takes_one at after told e =
      elim (ℕ_discrete (first_refusal (checks reading bytes)) 0) [
        | yes z ↦ rw z (one (step_of (cursor_at at) bytes) refl (rw z at e))
        | no n ↦ absurd (true≢false (sym (ap (λ (x : Bool × ℕ × PayloadTold). x.0) (rw (ne_eqb (first_refusal (checks reading bytes)) 0 n) at e))))
      ]
    where
      one : (s : Option (Place × Cursor)) → step_of (cursor_at at) bytes ≡ s → tell_step at s ≡ (true, after, told)
          → (p : Place) × (tell_payload p ≡ told) × (places_from (cursor_at at) bytes ≡ p ∷ places_from (cursor_at after) bytes)
      one None q t = absurd (true≢false (sym (ap (λ (x : Bool × ℕ × PayloadTold). x.0) t)))
      one (Some (p, next)) q t =
          let on = step_on (cursor_at at) bytes p next q in
          let same : next.at ≡ after = ap (λ (x : Bool × ℕ × PayloadTold). x.1) t in
          let past : 24 ≤ after = omega (arith, after_header at) in
          let there : cursor_at after ≡ next = rw (le-ltb after 24 past, ← same) (sym on.1) in
          (p, ap (λ (x : Bool × ℕ × PayloadTold). x.2) t, rw there (step_payload (cursor_at at) bytes p next q))
