-- What a record captured, wherever in the data it stands.
use Rattle.std.specs.Prelude.{ℕ, ◌+◌, List, take, drop}
use Rattle.record_rule.specs.declared.Record.{Record}

-- The bytes that a record captured.
abbrev pub record_bytes : List ℕ → Record → List ℕ
record_bytes bytes r = take r.len (drop r.body bytes)

-- Where they end.
abbrev pub record_end : Record → ℕ
record_end r = r.body + r.len
