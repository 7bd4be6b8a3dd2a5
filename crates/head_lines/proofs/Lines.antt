-- The text that the library writes is the definition's, by its parts.
use Rattle.std.proofs.Common.{ℕ, ◌^◌, ◌<◌, ◌≡◌, refl, sym, ap, [], ◌∷◌, ◌++◌, append_assoc, eq-eqb, ne_eqb}
use Rattle.std.specs.Fmt.{decimal as written}
use Rattle.answers.specs.declared.Refusal.{Refusal}
use Rattle.answers.specs.Answer.{refusal_number, refusal_points}
use Rattle.head_lines.specs.HeadLines.{decimal, points_text, frames_text, refused_text, space, line_end, head_line, refusal_line}
use Rattle.head_lines.proofs.Decimal.{decimal_is}

pub head_is : (points frames : ℕ) → points < 2 ^ 64 → frames < 2 ^ 64 → points_text ++ (written points ++ (frames_text ++ (written frames ++ line_end ∷ []))) ≡ head_line points frames
unfolding head_line
head_is points frames h k = rw (decimal_is points h, decimal_is frames k) (simp append_assoc refl)

module _ (refusal : Refusal) (number : ℕ) (is : number ≡ refusal_number refusal) (h : number < 2 ^ 64) where
  pub no_room_is : (needed : ℕ) → needed < 2 ^ 64 → refusal_number refusal ≡ 10 → needed ≡ refusal_points refusal → refused_text ++ (written number ++ (space ∷ (written needed ++ line_end ∷ []))) ≡ refusal_line refusal
  unfolding refusal_line
  no_room_is needed k e n = rw (decimal_is number h, decimal_is needed k, is, n, eq-eqb (refusal_number refusal) 10 e) (ap (λ t. refused_text ++ t) (sym (append_assoc (decimal (refusal_number refusal)) (space ∷ decimal (refusal_points refusal)) (line_end ∷ []))))

  pub other_is : (refusal_number refusal ≡ 10 → ⊥) → refused_text ++ (written number ++ line_end ∷ []) ≡ refusal_line refusal
  unfolding refusal_line
  other_is e = rw (decimal_is number h, is, ne_eqb (refusal_number refusal) 10 e) (ap (λ t. refused_text ++ t) (sym (append_assoc (decimal (refusal_number refusal)) [] (line_end ∷ []))))
