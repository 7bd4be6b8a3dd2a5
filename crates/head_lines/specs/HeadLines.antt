-- What the lister prints first: what was read, or the refusal.
use Rattle.std.specs.Prelude.{ℕ, zero, suc, ◌+◌, ◌/◌, ◌%◌, cond, List, [], ◌∷◌, ◌++◌, ltb, eqb}
use Rattle.answers.specs.declared.Refusal.{Refusal}
use Rattle.answers.specs.Answer.{refusal_number, refusal_points}

-- The ASCII code of a decimal digit.
abbrev pub glyph : ℕ → ℕ
glyph d = 48 + d

-- The decimal digits of n, the most significant first, in at most so many steps.
unfoldable pub decimal_in : ℕ → ℕ → List ℕ
decimal_in zero n = []
decimal_in (suc steps) n = cond (ltb n 10) [] (decimal_in steps (n / 10)) ++ glyph (n % 10) ∷ []

-- The decimal digits of n, with no zero in front of another digit. n + 1 steps are enough, and more change nothing:
-- `steps_enough`.
unfoldable pub decimal : ℕ → List ℕ
unfolding decimal_in
decimal n = decimal_in (suc n) n

-- `points `
abbrev pub points_text : List ℕ
points_text = 112 ∷ 111 ∷ 105 ∷ 110 ∷ 116 ∷ 115 ∷ 32 ∷ []

-- ` frames `
abbrev pub frames_text : List ℕ
frames_text = 32 ∷ 102 ∷ 114 ∷ 97 ∷ 109 ∷ 101 ∷ 115 ∷ 32 ∷ []

-- `refused `
abbrev pub refused_text : List ℕ
refused_text = 114 ∷ 101 ∷ 102 ∷ 117 ∷ 115 ∷ 101 ∷ 100 ∷ 32 ∷ []

abbrev pub space : ℕ
space = 32

abbrev pub line_end : ℕ
line_end = 10

-- `points N frames F`
unfoldable pub head_line : ℕ → ℕ → List ℕ
head_line points frames = points_text ++ decimal points ++ frames_text ++ decimal frames ++ line_end ∷ []

-- `refused K`, and for 10 `refused 10 N` with the points needed
unfoldable pub refusal_line : Refusal → List ℕ
refusal_line refusal = refused_text ++ decimal (refusal_number refusal) ++ cond (eqb (refusal_number refusal) 10) (space ∷ decimal (refusal_points refusal)) [] ++ line_end ∷ []
