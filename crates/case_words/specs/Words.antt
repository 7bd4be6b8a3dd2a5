-- What the text of a case says, by its words: the call, numbers, and bytes with their places, as in
-- `lvx 28 8 @0=6c69766f785f74656368 @20=67a70eac`.
use Rattle.std.specs.Prelude.{ℕ, suc, ◌+◌, ◌-◌, ◌*◌, ◌%◌, ◌==◌, nat_lt, if◌then◌else◌, List, [], ◌∷◌, fold, take, drop, get_or}
use Rattle.std.specs.List.{position_or_len}
use Rattle.std.proofs.lemmas.List.Edits.{sets}

-- The place of the first b in a list; where there is none, the list's length.
abbrev pub index_of : ℕ → List ℕ → ℕ
index_of b xs = position_or_len (λ x. x == b) xs

-- The pieces with a byte before the first of them.
unfoldable pub joined : ℕ → List (List ℕ) → List (List ℕ)
joined b [] = (b ∷ []) ∷ []
joined b (piece ∷ pieces) = (b ∷ piece) ∷ pieces

-- The pieces of a text that a byte ends. The end of the text ends one, too.
unfoldable pub pieces_of : ℕ → List ℕ → List (List ℕ)
unfolding joined
pieces_of end [] = []
pieces_of end (b ∷ text) = if b == end then [] ∷ pieces_of end text else joined b (pieces_of end text)

-- The words of a text. A blank ends a word, and so does the end of the text.
abbrev pub words_of : List ℕ → List (List ℕ)
words_of text = pieces_of 32 text

-- The word of a rank; where there is none, an empty one.
abbrev pub word_of : List ℕ → ℕ → List ℕ
word_of text rank = get_or (words_of text) rank []

-- A number with one digit more. A byte counts by its last four bits: a digit by its value, and @ by 0. From
-- 1,844,674,407,370,955,161 on a number takes no digit more, so that it stays below 2^64.
unfoldable pub with_digit : ℕ → ℕ → ℕ
with_digit n b = if nat_lt n 1844674407370955161 then n * 10 + b % 16 else n

-- The number that a word is.
abbrev pub decimal_value : List ℕ → ℕ
decimal_value word = fold with_digit 0 word

-- The value of a hexadecimal digit, 0 to 9 or a to f: the last four bits of its byte, which for a letter is lowered by 7.
unfoldable pub hex_digit : ℕ → ℕ
hex_digit b = (if nat_lt b 58 then b else b - 7) % 16

abbrev pub byte_of : ℕ → ℕ → ℕ
byte_of high low = hex_digit high * 16 + hex_digit low

-- The bytes that hexadecimal digits stand for, two digits a byte.
unfoldable pub bytes_of : List ℕ → List ℕ
bytes_of [] = []
bytes_of (high ∷ []) = []
bytes_of (high ∷ low ∷ hex) = byte_of high low ∷ bytes_of hex

-- The data with the bytes of a word at its place: @20=67a7 has two bytes, for place 20 and the next. What lies past the
-- end is left out, and a word without = has no bytes.
unfoldable pub laid : List ℕ → List ℕ → List ℕ
laid bytes word = sets bytes (decimal_value (take (index_of 61 word) word)) (bytes_of (drop (suc (index_of 61 word)) word))

-- The same for words one after the other.
abbrev pub laid_all : List ℕ → List (List ℕ) → List ℕ
laid_all bytes words = fold laid bytes words
