-- Records that lie inside the data, wherever they come from.
use Rattle.std.proofs.Common.{ℕ, ◌≤◌, arith, ◌≡◌, ◌⊎◌, inl, inr, List, [], ◌∷◌, length, length-take, length-drop}
use Rattle.std.specs.List.{AllByRecursion}
use Rattle.record_rule.specs.declared.Record.{Record}
use Rattle.record_rule.specs.Captured.{record_bytes, record_end}

abbrev pub Inside : List ℕ → Record → Type 0
Inside bytes r = record_end r ≤ length bytes

-- A record is one of some. No `Contains` of std, which is by index: the laws over records, and `InRecord` of capture, which they prove, go along the list.
abbrev pub Among : Record → List Record → Type 0
Among r [] = ⊥
Among r (first ∷ records) = (r ≡ first) ⊎ Among r records

pub inside_of : (bytes : List ℕ) (records : List Record) (r : Record) → AllByRecursion (Inside bytes) records → Among r records → Inside bytes r
inside_of bytes [] r i m = absurd m
inside_of bytes (first ∷ records) r i (inl e) = rw e i.0
inside_of bytes (first ∷ records) r i (inr m) = inside_of bytes records r i.1 m

-- Such a record has as many bytes as it says.
pub inside_length : (bytes : List ℕ) (r : Record) → Inside bytes r → length (record_bytes bytes r) ≡ r.len
inside_length bytes r h = simp (length-take, length-drop) (omega arith)
