-- What the lister prints of a point.
use Rattle.std.specs.Prelude.{ℕ, ◌+◌, ◌/◌, ◌%◌, ◌^◌, cond, List, [], ◌∷◌, ◌++◌, map, ltb, eqb}

-- The ASCII code of a hexadecimal digit: 0 to 9, then a to f.
abbrev pub glyph : ℕ → ℕ
glyph d = cond (ltb d 10) (48 + d) (87 + d)

-- Eight hexadecimal digits, the most significant first.
unfoldable pub hex_digits : ℕ → List ℕ
hex_digits n = map (λ place. glyph (n / 16 ^ place % 16)) (7 ∷ 6 ∷ 5 ∷ 4 ∷ 3 ∷ 2 ∷ 1 ∷ 0 ∷ [])

-- c for kind 1, a Cartesian point; p for any other, of which there is 2, a polar one.
unfoldable pub letter : ℕ → ℕ
letter kind = cond (eqb kind 1) 99 112

abbrev pub space : ℕ
space = 32

abbrev pub line_end : ℕ
line_end = 10

-- The letter of the point's kind and its three numbers, a space before each.
unfoldable pub point_line : ℕ → ℕ → ℕ → ℕ → List ℕ
unfolding letter hex_digits
point_line kind x y z = letter kind ∷ space ∷ hex_digits x ++ space ∷ hex_digits y ++ space ∷ hex_digits z ++ line_end ∷ []
