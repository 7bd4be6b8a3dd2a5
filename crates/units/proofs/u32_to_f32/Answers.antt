-- `units::u32_to_f32` meets its contract: `halves` at n / 65536 and n % 65536.
use Rattle.std.proofs.Common.{◌∙◌, ap, ℕ, ◌/◌, ◌%◌, div-add-mod', arith, pos}
use Rattle.std.specs.Float.Ieee.{binary32, of_int}
use Rattle.units.proofs.Halves.{halves}
use Rattle.units.proofs.u32_to_f32.Goals as goal

pub returns : goal.returns
returns c = let n = c.args.n in
    halves (pos (n / 65536)) (n % 65536) (omega arith) (omega arith) ∙ ap (λ (k : ℕ). of_int binary32 (pos k)) (div-add-mod' n 65536)
