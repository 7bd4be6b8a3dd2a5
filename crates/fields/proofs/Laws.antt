-- Laws of `unsigned_at` and `field`, for either byte order. A number of two bytes that lie inside is written out (`number_two`), and one of k + k bytes is
-- made of two of k (`number_halves`).
use Rattle.std.proofs.Common.{◌≡◌, ℕ, zero, suc, ◌+◌, ◌*◌, ◌^◌, ◌≤◌, ◌<◌, Bool, true, if◌then◌else◌, nat_le, false, List, [], ◌∷◌, ◌++◌, reverse, length, get_or, take, drop, Option, Some, None, refl, sym, ap, ◌∙◌, arith, length-drop, drop-cons, zero-add, add_assoc, one-mul, mul-add, mul_assoc, take-add, take-take, drop-drop, length-take-le, le-leb, leb-true, leb-false}
use native.Mathlib.Nat.{pow-succ'}
use Rattle.std.proofs.lemmas.Bool.{lt-leb}
use Rattle.std.proofs.lemmas.List.{reverse-append, length-reverse}
use Rattle.std.specs.Option.{option_map}
use Rattle.fields.specs.declared.ByteOrder.{ByteOrder}
use Rattle.fields.specs.declared.ByteOrder.TheVariants.{Little, Big}
use Rattle.fields.specs.Number.{value, least_first, unsigned_at, part_at, field}

-- Two bytes that lie inside, each by its index.
pub number_two : (o : ByteOrder) (s : List ℕ) (off : ℕ) → off + 2 ≤ length s → unsigned_at o 2 s off ≡ value (least_first o (get_or s off 0 ∷ get_or s (off + 1) 0 ∷ []))
unfolding unsigned_at
number_two o s off h =
    let next : suc off ≡ off + 1 = omega arith in
    rw (drop-cons s off 0 (omega arith), drop-cons s (suc off) 0 (omega arith), next)

pub value-append : (a b : List ℕ) → value (a ++ b) ≡ value a + 256 ^ length a * value b
value-append [] b = sym (zero-add (1 * value b) ∙ one-mul (value b))
value-append (x ∷ a) b =
    let e = value-append a b in
    rw (e, mul-add, pow-succ', mul_assoc, add_assoc)

-- Where the two halves of a number of k + k bytes start.
abbrev pub low : ByteOrder → ℕ → ℕ → ℕ
low Little k off = off
low Big k off = off + k

abbrev pub high : ByteOrder → ℕ → ℕ → ℕ
high Little k off = off + k
high Big k off = off

-- The law of the widths: a number from its two halves.
pub number_halves : (o : ByteOrder) (k : ℕ) (s : List ℕ) (off : ℕ) → off + k + k ≤ length s → unsigned_at o (k + k) s off ≡ unsigned_at o k s (low o k off) + 256 ^ k * unsigned_at o k s (high o k off)
unfolding unsigned_at least_first
number_halves Little k s off h =
    let room : k ≤ length (drop off s) = simp length-drop (omega arith) in
    rw (take-add, drop-drop) (value-append (take k (drop off s)) (take k (drop (off + k) s)) ∙ rw (length-take-le k (drop off s) room))
number_halves Big k s off h =
    let room : k ≤ length (drop (off + k) s) = simp length-drop (omega arith) in
    rw (take-add, drop-drop, reverse-append) (value-append (reverse (take k (drop (off + k) s))) (reverse (take k (drop off s))) ∙ rw (length-reverse, length-take-le k (drop (off + k) s) room))

part : (k off n : ℕ) (l : List ℕ) → off + k ≤ n → take k (drop off (take n l)) ≡ take k (drop off l)
part k zero n l h = take-take k n l (omega arith)
part k (suc off) zero l h = absurd (omega arith)
part k (suc off) (suc n) [] h = refl
part k (suc off) (suc n) (x ∷ l) h = part k off n l (omega arith)

-- A number in a part of the bytes, as a part is lent: the n bytes from start on.
pub number_part : (o : ByteOrder) (k : ℕ) (s : List ℕ) (start n off : ℕ) → off + k ≤ n → unsigned_at o k (take n (drop start s)) off ≡ unsigned_at o k s (start + off)
unfolding unsigned_at
number_part o k s start n off h = ap (λ (w : List ℕ). value (least_first o w)) (part k off n (drop start s) h ∙ rw drop-drop)

module _ {A : Type 0} (wrap : ℕ → A) (o : ByteOrder) (k : ℕ) (s : List ℕ) (off : ℕ) where
  -- The two cases of a reader's answer.
  pub field_inside : off + k ≤ length s → field wrap o k s off ≡ Some (wrap (unsigned_at o k s off))
  unfolding field
  field_inside h = rw (le-leb (off + k) (length s) h)

  pub field_outside : length s < off + k → field wrap o k s off ≡ None
  unfolding field
  field_outside h = rw (lt-leb (off + k) (length s) h)

  -- A field of a part of the bytes, as a part is lent: the n bytes from start on.
  pub field_part : (start n : ℕ) → off + k ≤ n → start + n ≤ length s → field wrap o k (take n (drop start s)) off ≡ Some (wrap (unsigned_at o k s (start + off)))
  unfolding field
  field_part start n h fits =
      let long : length (take n (drop start s)) ≡ n = length-take-le n (drop start s) (simp length-drop (omega arith)) in
      rw (long, le-leb (off + k) n h, number_part o k s start n off h)

-- A part that is there, and one that is not.
module _ (k : ℕ) (s : List ℕ) (off : ℕ) where
  found : (b : Bool) {bytes x : List ℕ} → Some bytes ≡ (if b then Some x else None) → (b ≡ true) × (bytes ≡ x)
  found true e = (refl, cc e)
  found false e = absurd (let never : ◌≡◌ {A = ℕ} 0 1 = cc e in omega arith)

  missing : (b : Bool) (x : List ℕ) → ◌≡◌ {A = Option (List ℕ)} None (if b then Some x else None) → b ≡ false
  missing true x e = absurd (let never : ◌≡◌ {A = ℕ} 0 1 = cc e in omega arith)
  missing false x e = refl

  pub part_found : {bytes : List ℕ} → Some bytes ≡ part_at k s off → (off + k ≤ length s) × (bytes ≡ take k (drop off s))
  unfolding part_at
  part_found e = let there = found (nat_le (off + k) (length s)) e in (leb-true _ _ there.0, there.1)

  pub part_missing : None ≡ part_at k s off → length s < off + k
  unfolding part_at
  part_missing e = leb-false _ _ (missing (nat_le (off + k) (length s)) _ e)

-- What code makes of a part is the field.
made : {A B : Type 0} (make : A → B) (b : Bool) (x : A) {found : Option A} → found ≡ (if b then Some x else None) → option_map make found ≡ (if b then Some (make x) else None)
made make true x e = ap (option_map make) e
made make false x e = ap (option_map make) e

pub of_bytes : {A : Type 0} (wrap : ℕ → A) (o : ByteOrder) (k : ℕ) (s : List ℕ) (off : ℕ) {found : Option (List ℕ)} → found ≡ part_at k s off → option_map (λ bs. wrap (value (least_first o bs))) found ≡ field wrap o k s off
unfolding field unsigned_at part_at
of_bytes wrap o k s off e = made (λ bs. wrap (value (least_first o bs))) (nat_le (off + k) (length s)) _ e

-- What code makes of a reader's answer is a field that is wrapped anew.
pub mapped : {A B : Type 0} (f : A → B) (wrap : ℕ → A) (o : ByteOrder) (k : ℕ) (s : List ℕ) (off : ℕ) {answer : Option A} → answer ≡ field wrap o k s off → option_map f answer ≡ field (λ n. f (wrap n)) o k s off
unfolding field
mapped f wrap o k s off told = made f (nat_le (off + k) (length s)) (wrap (unsigned_at o k s off)) told
