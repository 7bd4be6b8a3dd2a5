-- A signed number, from the unsigned one that its bits are.
use Rattle.std.specs.Prelude.{ℕ, ◌-◌, ◌^◌, cond, ltb, ℤ, pos}
use Rattle.std.proofs.Math.IntN.{sub_ℕ}

-- Two's complement at w bits, for n below 2 ^ w: from 2 ^ (w - 1) on, n stands for n - 2 ^ w.
unfoldable pub signed : ℕ → ℕ → ℤ
signed w n = cond (ltb n (2 ^ (w - 1))) (pos n) (sub_ℕ n (2 ^ w))
