-- `savefile::record_at` meets its contract. The header is the first bytes from the place, so that what it states is what stands there in the data. Taking off the
-- length what is known to fit asks the same as the sum of the definition.
use Rattle.std.proofs.Common.{sym, ap, ◌∙◌, arith, ℕ, ◌≡◌, ◌+◌, ◌≤◌, List, length, take, drop, Option, Some}
use Rattle.fields.specs.Number.{part_at, field}
use Rattle.fields.proofs.Laws.{number_part, part_found, part_missing, field_part}
use Rattle.record_rule.specs.declared.time.Timestamp.{Timestamp}
use Rattle.savefile.specs.declared.RecordFormat.{RecordFormat}
use Rattle.savefile.specs.Savefile.{captured_at, time_at}
use Rattle.savefile.proofs.Records.{past_end, whole}
use Rattle.savefile.proofs.record_at.Goals as goal

module _ (format : RecordFormat) (bytes : List ℕ) (at : ℕ) {header : List ℕ} (found : Some header ≡ part_at 16 bytes at) where
  there : (at + 16 ≤ length bytes) × (header ≡ take 16 (drop at bytes))
  there = part_found 16 bytes at found

  stated : field (λ n. n) format.order 4 header 8 ≡ Some (captured_at format bytes at)
  stated = rw there.1 (field_part (λ n. n) format.order 4 bytes 8 at 16 (omega arith) there.0)

  read : {n : ℕ} → Some n ≡ field (λ n. n) format.order 4 header 8 → (n ≡ captured_at format bytes at) × (at + 16 ≤ length bytes)
  read e = (cc (e ∙ stated), there.0)

  time : time_at format header 0 ≡ time_at format bytes at
  time =
      let here : at + 0 ≡ at = omega arith in
      rw (there.1, number_part format.order 4 bytes at 16 0 (omega arith), number_part format.order 4 bytes at 16 4 (omega arith), here)

pub returns-in_err-header : goal.returns-in_err-header
returns-in_err-header c = c.from_residual.ensures ∙ past_end _ _ _ (omega (arith, part_missing 16 _ _ c.in_err-header.ensures))

pub returns-in_err-len : goal.returns-in_err-len
returns-in_err-len c =
    absurd (cc (sym c.in_err-len.was ∙ c.read.ensures ∙ stated c.args.format c.args.«data».now c.args.at c.in_ok-header.ensures))

pub returns-then-data-body : goal.returns-then-data-body
returns-then-data-body c =
    let len = read c.args.format c.args.«data».now c.args.at c.in_ok-header.ensures (sym c.in_ok-len.was ∙ c.read.ensures) in
    past_end _ _ _ (omega arith)

pub returns : goal.returns
returns c =
    let len = read c.args.format c.args.«data».now c.args.at c.in_ok-header.ensures (sym c.in_ok-len.was ∙ c.read.ensures) in
    let same : ◌≡◌ {A = Option Timestamp} (Some c.in_ok-time_at.field-0) (Some (time_at c.args.format c.args.«data».now c.args.at)) =
    sym c.in_ok-time_at.was ∙ c.time_at.ensures ∙ ap Some (time c.args.format c.args.«data».now c.args.at c.in_ok-header.ensures) in
    let own : c.in_ok-time_at.field-0 ≡ time_at c.args.format c.args.«data».now c.args.at = cc same in
    rw (len.0, own) (whole _ _ _ (omega arith))
