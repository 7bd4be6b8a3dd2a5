-- A row of the list of worked cases, and how its bytes are written.
use Rattle.std.specs.Prelude.{ℕ, zero, suc, ◌/◌, ◌%◌, ◌^◌, List, [], ◌∷◌, ◌++◌}
use Rattle.claims.specs.Call.{Call, Told}

pub record Row : Type 0 where
  pub call : Call
  pub told : Told

infix 75 ◌tells◌
abbrev pub ◌tells◌ : Call → Told → Row
call tells told = record { call = call; told = told }

-- The n bytes that 2 * n hexadecimal digits spell, from the left, as a dump of a file has them.
unfoldable pub dump : ℕ → ℕ → List ℕ
dump zero digits = []
dump (suc n) digits = digits / 256 ^ n % 256 ∷ dump n digits

-- These bytes, n times.
unfoldable pub times : ℕ → List ℕ → List ℕ
times zero bytes = []
times (suc n) bytes = bytes ++ times n bytes
