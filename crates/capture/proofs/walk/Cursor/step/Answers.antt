-- `capture::Cursor::step` meets its contract. The loop's invariant: from the place reached the walk yields what it yields from the cursor on. A record that is
-- passed over moves the place after it, and a payload is the first of them.
use Rattle.std.proofs.Common.{sym, ap, ◌∙◌, arith, ℕ, ◌+◌, ◌-◌, ◌≤◌, ◌<◌, ◌≡◌, List, ◌++◌, take, drop, Some, Ok}
use Rattle.record_rule.specs.declared.Record.{Record}
use Rattle.record_rule.specs.declared.rule.Part.{Part}
use Rattle.savefile.specs.Headers.{recorded_at}
use Rattle.record_rule.specs.Captured.{record_end}
use Rattle.record_rule.specs.Record.{Verdict, verdict}
use Rattle.record_rule.proofs.Inside.{Inside}
use Rattle.savefile.specs.Savefile.{record_at}
use Rattle.savefile.proofs.Records.{is_past, is_whole}
use Rattle.capture.specs.declared.walk.Cursor.{Cursor}
use Rattle.capture.specs.Payloads.{yield_at, yields_from, yields_after, step_to, step_of}
use Rattle.capture.proofs.Records.{at_end, further, at_record, in_record}
use Rattle.capture.proofs.walk.Cursor.step.Goals as goal

-- The record at the place reached: it lies inside, the walk goes on behind it, and what it yields comes first.
module _ (self : Cursor) (bytes : List ℕ) (at : ℕ) (here : Record) (read : recorded_at self.format bytes at ≡ Some here) where
  abbrev there : (here ≡ record_at self.format bytes at) × Inside bytes here
  there = is_whole self.format bytes at here read

  on : at < record_end here
  on = further self.reading self.format self.port bytes at here there.0 there.1

  module _ (v : Verdict) (judged : v ≡ verdict self.reading self.port (take (record_end here - here.body) (drop here.body bytes))) where
    fits : (part : Part) → v ≡ Ok part → part.start + part.len ≤ here.len
    fits part e = (in_record self.reading self.format self.port bytes at here there.0 there.1 part (sym judged ∙ e)).0

    yielded : yields_after self bytes ≡ yields_from self.reading self.format self.port bytes at → (t : Verdict) → v ≡ t
        → yields_after self bytes ≡ yield_at here t ++ yields_from self.reading self.format self.port bytes (record_end here)
    yielded e t is = e ∙ at_record self.reading self.format self.port bytes at here there.0 there.1 t (sym judged ∙ is)

pub returns-in_err-record : goal.returns-in_err-record
unfolding step_of
returns-in_err-record c =
    let a = c.args in
    let end = is_past a.self.format a.«data».now c.loop-record.at (sym c.record_at.ensures ∙ c.in_err-record.was) in
    c.from_residual.ensures ∙ sym (ap (step_to a.self) (c.loop-record.invariant ∙ at_end a.self.reading a.self.format a.self.port a.«data».now c.loop-record.at end))

pub overflow_add-end : goal.overflow_add-end
overflow_add-end c = omega (arith, (there c.args.self _ _ _ (sym c.record_at.ensures ∙ c.in_ok-record.was)).1)

pub slice_bounds-judge-end : goal.slice_bounds-judge-end
slice_bounds-judge-end c = (there c.args.self _ _ _ (sym c.record_at.ensures ∙ c.in_ok-record.was)).1

pub place_in-requires : goal.place_in-requires
place_in-requires c =
    let read = sym c.record_at.ensures ∙ c.in_ok-record.was in
    omega (arith, (there c.args.self _ _ _ read).1, fits c.args.self _ _ _ read _ c.judge.ensures _ c.in-Ok.is)

pub returns-in-Ok : goal.returns-in-Ok
unfolding step_of
returns-in-Ok c =
    rw (c.place_in.ensures, c.moved_to.ensures)
    (sym (ap (step_to c.args.self) (yielded _ _ _ _ (sym c.record_at.ensures ∙ c.in_ok-record.was) _ c.judge.ensures c.loop-record.invariant _ c.in-Ok.is)))

pub loop-record-smaller : goal.loop-record-smaller
loop-record-smaller c =
    let read = sym c.record_at.ensures ∙ c.in_ok-record.was in
    omega (arith, (there c.args.self _ _ _ read).1, on c.args.self _ _ _ read)

pub loop-record-preserved : goal.loop-record-preserved
loop-record-preserved c = yielded _ _ _ _ (sym c.record_at.ensures ∙ c.in_ok-record.was) _ c.judge.ensures c.loop-record.invariant _ c.in_default.is
