-- Opening a capture by the file header's answer, and what an answer says of the checks.
use Rattle.std.proofs.Common.{refl, sym, ap, ◌∙◌, ℕ, ◌≡◌, Bool, true, false, cond, List, [], ◌∷◌, map, eqb, Some, None, Result, Ok, Err}
use Rattle.std.specs.Result.{result_ok}
use Rattle.answers.specs.declared.Refusal.{Refusal}
use Rattle.points.specs.ReadInto.{first_refusal}
use Rattle.record_rule.specs.declared.reading.Reading.{Reading}
use Rattle.savefile.specs.declared.RecordFormat.{RecordFormat}
use Rattle.savefile.specs.Savefile.{format_of, checks}
use Rattle.savefile.specs.Headers.{file_header}
use Rattle.capture.specs.declared.walk.Cursor.{Cursor}
use Rattle.capture.specs.Payloads.{opening, of_opened, start_cursor}

module _ (reading : Reading) (port : ℕ) (bytes : List ℕ) where
  -- The file header's answer, with a cursor where it accepts.
  abbrev with_cursor : ℕ × List RecordFormat → ℕ × List Cursor
  with_cursor told = (told.0, map (λ (format : RecordFormat). start_cursor reading port bytes) told.1)

  pub by_header : (told : ℕ × List RecordFormat) → told ≡ file_header reading bytes → with_cursor told ≡ opening reading port bytes
  unfolding opening file_header
  by_header told e = ap with_cursor e ∙ either (eqb (first_refusal (checks reading bytes)) 0)
    where
      either : (b : Bool) → let n = first_refusal (checks reading bytes) in with_cursor (n, cond b (format_of reading bytes ∷ []) []) ≡ (n, cond b (start_cursor reading port bytes ∷ []) [])
      either true = refl
      either false = refl

  -- What an answer says of the checks.
  pub walks : (cursor : Cursor) → (0, cursor ∷ []) ≡ opening reading port bytes → (first_refusal (checks reading bytes) ≡ 0) × (cursor ≡ start_cursor reading port bytes)
  unfolding opening
  walks cursor e =
      let none : first_refusal (checks reading bytes) ≡ 0 = sym (ap (λ (x : ℕ × List Cursor). x.0) e) in
      let one : cursor ∷ [] ≡ start_cursor reading port bytes ∷ [] = ap (λ (x : ℕ × List Cursor). x.1) e ∙ rw none in
      (none, cc)

  pub refuses : (n : ℕ) → (n, []) ≡ opening reading port bytes → first_refusal (checks reading bytes) ≡ 0 → ⊥
  unfolding opening
  refuses n e none =
      let one : [] ≡ start_cursor reading port bytes ∷ [] = ap (λ (x : ℕ × List Cursor). x.1) e ∙ rw none in
      cc

  -- A cursor keeps what the capture was opened with.
  pub kept : (cursor : Cursor) → (0, cursor ∷ []) ≡ opening reading port bytes → (cursor.reading ≡ reading) × (cursor.port ≡ port)
  kept cursor e =
      let start = (walks cursor e).1 in
      (ap (λ (c : Cursor). c.reading) start, ap (λ (c : Cursor). c.port) start)

  pub own : (cursor : Cursor) → (0, cursor ∷ []) ≡ opening reading port bytes → (0, cursor ∷ []) ≡ opening cursor.reading cursor.port bytes
  own cursor e =
      let same = kept cursor e in
      e ∙ sym (ap (λ (r : Reading). opening r cursor.port bytes) same.0 ∙ ap (λ (p : ℕ). opening reading p bytes) same.1)

  -- The same of what `ok` leaves of the answer.
  pub is_opened : (opened : Result Cursor Refusal) (cursor : Cursor) → of_opened opened ≡ opening reading port bytes → result_ok opened ≡ Some cursor → (0, cursor ∷ []) ≡ opening reading port bytes
  is_opened (Ok own) cursor e is = let same : own ≡ cursor = cc in rw same at e
  is_opened (Err refusal) cursor e is = absurd (cc)

  pub is_refused : (opened : Result Cursor Refusal) → of_opened opened ≡ opening reading port bytes → result_ok opened ≡ None → first_refusal (checks reading bytes) ≡ 0 → ⊥
  is_refused (Ok cursor) e is = absurd (cc)
  is_refused (Err refusal) e is = refuses _ e
