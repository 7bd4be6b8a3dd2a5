-- Placing by file and rank is placing the stored reading of that rank, where there is one; else it gives the number that says why there is none. Demand 3 follows (`both`).
use Rattle.std.proofs.Common.{◌≡◌, refl, sym, ap, ◌∙◌, ℕ, zero, suc, List, [], ◌∷◌, ◌++◌, length, slice_get, nat_le, Option, Some, None, Result}
use Rattle.points.specs.ReadInto.{first_refusal}
use Rattle.points.proofs.ReadInto.{first_decides}
use Rattle.livox_form.specs.declared.Form.{Form}
use Rattle.livox_header.specs.Header.{checks}
use Rattle.livox_header.proofs.Opening.{numbered}
use Rattle.livox_stored.specs.Stored.{Stored}
use Rattle.livox_file.specs.Livox.{stored}
use Rattle.answers.specs.declared.Refusal.{Refusal}
use Rattle.livox_stored.specs.declared.StoredReading.{StoredReading}
use Rattle.livox_rank.specs.Ranks.{of_stored_answer, ranked_as, reading_of_rank}
use Rattle.livox_rank.proofs.Ranks.{element, by_element, rank_passes}
use Rattle.placing.specs.Placing.{by_reading, Placement, place, refused}
use Rattle.placing.specs.Accuracy.{Accurate, seen_at}
use Rattle.placing.proofs.Accuracy.{both, seen}
use Rattle.placing.proofs.Checks.{file_refused, let_through, not_placeable}
use Rattle.placing_in_file.specs.InFile.{along_if, by_rank}

seen_if : (reading : Option Stored) → along_if reading ≡ seen_at reading
seen_if (Some reading) = seen reading
seen_if None = refl

-- where demand 3 has the point
pub seen_at_rank : (form : Form) (bytes : List ℕ) (rank : ℕ) → (by_rank form bytes rank).micrometres ≡ seen_at (slice_get (stored form bytes) rank)
seen_at_rank form bytes rank = seen_if (slice_get (stored form bytes) rank)

module _ (count datum pulse_length : ℕ) where
  -- A number and a reading, placed. The number tells why there is no reading.
  abbrev pub placed : ℕ × Option Stored → Placement
  placed (number, Some reading) = place (by_reading reading) count datum pulse_length
  placed (number, None) = refused number

  -- what the list has at the rank
  at_element : (o : Option Stored) → placed (element o) ≡ place (record { checks = []; micrometres = along_if o }) count datum pulse_length
  unfolding first_refusal
  at_element (Some reading) = refl
  at_element None = not_placeable (record { checks = []; micrometres = None }) count datum pulse_length tt refl refl

  module _ (form : Form) (bytes : List ℕ) (rank : ℕ) where
    pub ranked : placed (reading_of_rank form bytes rank) ≡ place (by_rank form bytes rank) count datum pulse_length
    unfolding reading_of_rank
    ranked = go (first_refusal (checks form bytes)) refl
      where
        go : (n : ℕ) → first_refusal (checks form bytes) ≡ n
            → placed (ranked_as (first_refusal (checks form bytes ++ (11, nat_le (length (stored form bytes)) rank) ∷ [])) (slice_get (stored form bytes) rank)) ≡ place (by_rank form bytes rank) count datum pulse_length
        go zero e =
            sym (ap placed (by_element (stored form bytes) rank ∙ rank_passes form bytes rank e)) ∙ at_element _
            ∙ let_through (by_rank form bytes rank) count datum pulse_length (numbered form bytes) e
        go (suc n) e = rw (first_decides (checks form bytes) _ n e) (file_refused (by_rank form bytes rank) count datum pulse_length n e)

    -- The two ways of asking agree.
    pub same_as_by_reading : (reading : Stored) → reading_of_rank form bytes rank ≡ (0, Some reading) → place (by_reading reading) count datum pulse_length ≡ place (by_rank form bytes rank) count datum pulse_length
    same_as_by_reading reading e = sym (ap placed e) ∙ ranked

    -- What code finds in the answer of `stored_reading`, placed, and demand 3 of it.
    pub answered : (answer : Result StoredReading Refusal) {placement : Placement} → of_stored_answer answer ≡ reading_of_rank form bytes rank → placement ≡ placed (of_stored_answer answer)
        → (placement ≡ place (by_rank form bytes rank) count datum pulse_length) × Accurate (checks form bytes) (slice_get (stored form bytes) rank) count datum pulse_length placement
    answered answer gave e =
        both (by_rank form bytes rank) (numbered form bytes) (slice_get (stored form bytes) rank) (seen_at_rank form bytes rank) count datum pulse_length
        (e ∙ ap placed gave ∙ ranked)
