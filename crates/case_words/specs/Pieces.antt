-- What an iterator over the pieces of a text has left.
use Rattle.std.specs.Prelude.{ℕ, List}
use Rattle.case_words.specs.declared.Pieces.{Pieces}
use Rattle.case_words.specs.Words.{pieces_of}

abbrev pub pieces_left : Pieces → List (List ℕ)
pieces_left p = pieces_of p.end p.rest.now
