-- What code tells of a header.
use Rattle.std.specs.Prelude.{ℕ, cond, List, [], ◌∷◌, leb, eqb, length, Option, Some, None, Result, Ok, Err}
use Rattle.answers.specs.Answer.{refusal_number}
use Rattle.points.specs.ReadInto.{first_refusal}
use Rattle.record_rule.specs.declared.reading.Reading.{Reading}
use Rattle.record_rule.specs.Captured.{record_end}
use Rattle.savefile.specs.declared.RecordFormat.{RecordFormat}
use Rattle.answers.specs.declared.Refusal.{Refusal}
use Rattle.record_rule.specs.declared.Record.{Record}
use Rattle.savefile.specs.Savefile.{record_at, format_of, checks}

-- The file header gives a number and, where that is 0, how the records are written.
unfoldable pub file_header : Reading → List ℕ → ℕ × List RecordFormat
file_header reading bytes =
    let n = first_refusal (checks reading bytes) in
    (n, cond (eqb n 0) (format_of reading bytes ∷ []) [])

-- What code's answer stands for.
abbrev pub of_file_header : Result RecordFormat Refusal → ℕ × List RecordFormat
of_file_header (Ok format) = (0, format ∷ [])
of_file_header (Err refusal) = (refusal_number refusal, [])

-- The record at a place, where all of it is there.
unfoldable pub recorded_at : RecordFormat → List ℕ → ℕ → Option Record
recorded_at format bytes at =
    let r = record_at format bytes at in
    cond (leb (record_end r) (length bytes)) (Some r) None
