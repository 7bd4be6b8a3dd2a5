-- `savefile::time_at` meets its contract. Both numbers lie in the header.
use Rattle.std.proofs.Common.{sym, ◌∙◌, arith, ℕ, ◌≡◌, ◌+◌}
use Rattle.fields.specs.Number.{unsigned_at}
use Rattle.fields.proofs.Opened.{is_number, never_missing}
use Rattle.savefile.proofs.time_at.Goals as goal

pub returns-in_err-seconds : goal.returns-in_err-seconds
returns-in_err-seconds c = never_missing _ c.args.format.order 4 c.args.header.now 0 (omega arith) (sym c.in_err-seconds.was ∙ c.read.ensures)

pub returns-in_err-fraction : goal.returns-in_err-fraction
returns-in_err-fraction c = never_missing _ c.args.format.order 4 c.args.header.now 4 (omega arith) (sym c.in_err-fraction.was ∙ c.read-2.ensures)

pub returns : goal.returns
returns c =
    let order = c.args.format.order in
    let header = c.args.header.now in
    let seconds : c.in_ok-seconds.seconds ≡ unsigned_at order 4 header 0 = is_number _ _ 4 _ _ (omega arith) (sym c.in_ok-seconds.was ∙ c.read.ensures) in
    let fraction : c.in_ok-fraction.fraction ≡ unsigned_at order 4 header 4 = is_number _ _ 4 _ _ (omega arith) (sym c.in_ok-fraction.was ∙ c.read-2.ensures) in
    let there : ◌≡◌ {A = ℕ} (0 + 4) 4 = omega arith in
    rw (seconds, fraction, there)
