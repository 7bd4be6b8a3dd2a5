-- How reading an input ended, from what the system answered: len bytes in a buffer of room, and then `more`, the answer
-- of one further read, which is 0 at the input's end.
use Rattle.std.specs.Prelude.{◌≡◌, ℕ, zero, suc, ◌<◌, nat_lt, ⊤, MatchBool, List, length, Option, None, Some, Result, Ok, Err}
use Rattle.std.specs.IoError.{error_kind}
use Rattle.std.specs.declared.io.Error.{Error}
use Rattle.std.specs.declared.io.ErrorKind.TheVariants.{Interrupted}
use Rattle.input.specs.declared.Unread.{Unread}
use Rattle.input.specs.declared.Unread.TheVariants.{TooLong, Failed}

-- After a gap, which an interrupted read leaves.
abbrev pub Interrupts : Result (Unit {0}) Unread → Type 0
Interrupts ended = (e : Error) × (ended ≡ Err (Failed e)) × (error_kind e ≡ Interrupted)

-- Taken for granted is that what fails once, as on a directory, fails again. Bytes after a buffer that was not filled
-- show that a read before them failed, or told an end that was not the last; both count as failed. After a full buffer
-- they show that it was too short.
abbrev pub Ended : ℕ → ℕ → Result ℕ Error → Result (Unit {0}) Unread → Type 0
Ended len room (Ok zero) ended = ended ≡ Ok tt
Ended len room (Ok (suc n)) ended = MatchBool (nat_lt len room) (Interrupts ended) (ended ≡ Err TooLong)
Ended len room (Err e) ended = ended ≡ Err (Failed e)

-- An input is told to be too long only where it has more bytes than the buffer, of a reader whose bytes are known.
abbrev pub GoesOn : Unread → ℕ → Option (List ℕ) → Type 0
GoesOn TooLong room None = ⊤
GoesOn TooLong room (Some bytes) = room < length bytes
GoesOn (Failed e) room known = ⊤
