-- How a line is put together: what `append` does.
use Rattle.std.specs.Prelude.{ℕ, ◌+◌, ◌≡◌, List, ◌++◌, length, take, drop}
use Rattle.points.specs.ReadInto.{over}

-- The text stands in the line at an index, what lies before it and after it is as it was, and the next index is the one
-- after the text.
abbrev pub Appended : List ℕ → List ℕ → ℕ → List ℕ → ℕ → Type 0
Appended text line at line' next = (next ≡ at + length text) × (line' ≡ take at line ++ over text (drop at line))
