-- The bytes that code puts together are those of the line: each text goes after those before it, and the digits of a
-- number are the fewest that hold it.
use Rattle.std.proofs.Common.{ℕ, zero, suc, ◌+◌, ◌-◌, ◌*◌, ◌/◌, ◌%◌, ◌^◌, ◌≤◌, ◌<◌, ◌≡◌, refl, sym, ap, ◌∙◌, List, [], ◌∷◌, ◌++◌, length, take, drop, length-append, length-take-le, append_assoc, append-nil, arith, pow-suc, eq-eqb, ne_eqb, lt-ltb, le-ltb}
use Rattle.io.specs.Digits.{last_digits, IsDigitCount}
use borrow.Rule.Slice.PartMut.{put_mid}
use Rattle.answers.specs.declared.Refusal.{Refusal}
use Rattle.answers.specs.Answer.{refusal_number, refusal_points}
use Rattle.points.specs.ReadInto.{over}
use Rattle.points.proofs.Lists.{after, front_over, beyond_over}
use Rattle.head_lines.specs.Appended.{Appended}
use Rattle.head_lines.specs.HeadLines.{decimal_in, decimal, points_text, frames_text, refused_text, space, line_end, head_line, refusal_line}
use native.Mathlib.Nat.{one-le-pow, zero-add}
use native.Mathlib.Numerals.{unary_clauses}

fewest_in : (k steps n : ℕ) → n < steps → IsDigitCount 10 1 n k → last_digits 10 k n ≡ decimal_in steps n
unfolding decimal_in
fewest_in zero steps n h (l, m, g) = absurd (omega arith)
fewest_in (suc zero) zero n h _ = absurd (omega arith)
fewest_in (suc (suc k)) zero n h _ = absurd (omega arith)
fewest_in (suc zero) (suc steps) n h (l, m, g) = rw (lt-ltb n 10 m, lt-ltb (n % 10) 10 (omega arith))
fewest_in (suc (suc k)) (suc steps) n h (l, m, g) =
    let long : 10 ^ k * 10 ≤ n = simp (unary_clauses, pow-suc) at (g (omega arith)) in
    let short : n < 10 ^ suc k * 10 = rw pow-suc at m in
    let some : 10 ≤ n = omega (arith, one-le-pow k 10 (omega arith)) in
    rw (le-ltb n 10 some, lt-ltb (n % 10) 10 (omega arith), ← fewest_in (suc k) steps (n / 10) (omega arith) (omega arith, omega arith, λ _. simp unary_clauses (omega arith)))

-- the fewest digits that hold n are the ones with no zero in front
pub fewest_is : (k n : ℕ) → IsDigitCount 10 1 n k → last_digits 10 k n ≡ decimal n
unfolding decimal
fewest_is k n f = fewest_in k (suc n) n (omega arith) f

-- a part of the line as long as the text, lent to the copy and put back
pub copied : (text old : List ℕ) (at : ℕ) {new : List ℕ} → new ≡ text → Appended text old at (put_mid at (at + length text - at) old new) (at + length text)
unfolding over
copied text old at e = let long : at + length text - at ≡ length text = omega arith in (refl, rw (e, long))

over_more : (new more old : List ℕ) (n : ℕ) → length new ≡ n → take n (over new old) ++ over more (drop n (over new old)) ≡ over (new ++ more) old
over_more new more old n e = rw (front_over new old n e, beyond_over new old n e) (after new more old n e)

-- one text and then another after it
pub both : (text more line : List ℕ) (at : ℕ) {line' line'' : List ℕ} {mid next : ℕ} → at ≤ length line → Appended text line at line' mid → Appended more line' mid line'' next
    → Appended (text ++ more) line at line'' next
both text more line at {mid = mid} h (e, f) (g, k) =
    let front = take at line in
    let long : length front ≡ at = length-take-le at line h in
    let upto : length (front ++ text) ≡ mid = rw (length-append, long) (sym e) in
    (g ∙ rw (e, length-append) (omega arith), k ∙ rw (f, after front text line at long, over_more (front ++ text) more line mid upto, append_assoc) (sym (after front (text ++ more) line at long)))

-- the text stands over the front of what the line held, and the next index is the one after it
abbrev pub Begun : List ℕ → List ℕ → List ℕ → ℕ → Type 0
Begun text old line next = (next ≡ length text) × (line ≡ over text old)

module _ (old : List ℕ) {line' : List ℕ} {next : ℕ} where
  pub first : (text : List ℕ) → Appended text old 0 line' next → Begun text old line' next
  first text (e, f) = (e ∙ zero-add (length text), f)

  pub then : {line : List ℕ} {at : ℕ} (text new : List ℕ) → Begun text old line at → Appended new line at line' next → Begun (text ++ new) old line' next
  then {line} {at} text new (e, f) (g, h) = (g ∙ rw (e, length-append), h ∙ rw f (over_more text new old at (sym e)))

-- the lines, by what code puts one after another
pub head_bytes : (points frames : ℕ) → points_text ++ decimal points ++ (frames_text ++ decimal frames) ++ line_end ∷ [] ≡ head_line points frames
unfolding head_line
head_bytes points frames = ap (λ (t : List ℕ). t ++ line_end ∷ []) (sym (append_assoc (points_text ++ decimal points) frames_text (decimal frames)))

pub whole_head_line : (points frames : ℕ) (old : List ℕ) {at next end : ℕ} {line line' line'' : List ℕ} → Appended (points_text ++ decimal points) old 0 line at
    → Appended (frames_text ++ decimal frames) line at line' next → Appended (line_end ∷ []) line' next line'' end → Begun (head_line points frames) old line'' end
whole_head_line points frames old one two last = rw (← head_bytes points frames) (then old _ _ (then old _ _ (first old _ one) two) last)

module _ (refusal : Refusal) where
  abbrev pub refused : List ℕ
  refused = refused_text ++ decimal (refusal_number refusal)

  pub no_room_bytes : refusal_number refusal ≡ 10 → refused ++ (space ∷ decimal (refusal_points refusal)) ++ line_end ∷ [] ≡ refusal_line refusal
  unfolding refusal_line
  no_room_bytes e = rw (eq-eqb (refusal_number refusal) 10 e)

  pub other_bytes : (refusal_number refusal ≡ 10 → ⊥) → refused ++ line_end ∷ [] ≡ refusal_line refusal
  unfolding refusal_line
  other_bytes e = rw (ne_eqb (refusal_number refusal) 10 e) (ap (λ (t : List ℕ). t ++ line_end ∷ []) (sym (append-nil refused)))

-- The line of a refusal, put together from the text up to its number on: with the points needed, or at once to its end.
module _ (refusal : Refusal) (old : List ℕ) {number at : ℕ} {line : List ℕ} (is : number ≡ refusal_number refusal) (begun : Appended (refused_text ++ decimal number) old 0 line at) where
  up_to_number : Begun (refused refusal) old line at
  up_to_number = rw is at (first old _ begun)

  pub no_room_line : {needed next end : ℕ} {line' line'' : List ℕ} → refusal_number refusal ≡ 10 → needed ≡ refusal_points refusal → Appended (space ∷ decimal needed) line at line' next → Appended (line_end ∷ []) line' next line'' end
      → Begun (refusal_line refusal) old line'' end
  no_room_line ten n more last = rw (← no_room_bytes refusal ten) (then old _ _ (then old _ _ up_to_number (rw n at more)) last)

  pub other_line : {end : ℕ} {line' : List ℕ} → (refusal_number refusal ≡ 10 → ⊥) → Appended (line_end ∷ []) line at line' end → Begun (refusal_line refusal) old line' end
  other_line not_ten last = rw (← other_bytes refusal not_ten) (then old _ _ up_to_number last)
