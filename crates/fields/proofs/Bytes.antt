-- What std's `from_le_bytes` and `from_be_bytes` make of bytes is their `value`, for any count of them: by induction over how many are summed up.
use Rattle.std.proofs.Common.{◌≡◌, ℕ, zero, suc, refl, length-drop, ◌+◌, ◌-◌, ◌*◌, ◌^◌, ◌≤◌, ◌<◌, one-mul, List, reverse, length, get_or, take, drop, Some, arith, ◌∙◌, ap, length-take-le, take_all}
use Rattle.std.specs.Int.{sum_through, byte_worth}
use native.Mathlib.Nat.{pow-succ'}
use Rattle.std.proofs.lemmas.List.{reverse-append}
use Rattle.std.proofs.Math.Seq.{take-suc}
use Rattle.fields.specs.declared.ByteOrder.{ByteOrder}
use Rattle.fields.specs.declared.ByteOrder.TheVariants.{Little, Big}
use Rattle.fields.specs.Number.{value, least_first, part_at, field}
use Rattle.fields.proofs.Laws.{value-append, part_found, of_bytes}

summed : (xs : List ℕ) (k : ℕ) → k < length xs → sum_through (λ i. byte_worth i (get_or xs i 0)) k ≡ value (take (suc k) xs)
summed xs zero h =
    let first = take-suc xs 0 0 h in
    rw first (omega arith)
summed xs (suc k) h =
    let next = take-suc xs (suc k) 0 h in
    let before = summed xs k (omega arith) in
    let len = length-take-le (suc k) xs (omega arith) in
    let worth : get_or xs (suc k) 0 * 256 ^ suc k ≡ 256 ^ suc k * (get_or xs (suc k) 0 + 0) = omega arith in
    rw (next, value-append, before, len) (ap (λ n. value (take (suc k) xs) + n) worth)

worth : (i b : ℕ) → byte_worth i b ≡ b * 256 ^ i
worth zero b = omega arith
worth (suc i) b = refl

first_worth : (p x : ℕ) → x * p ≡ p * (x + 0)
first_worth p x = omega arith

more_worth : (p x v : ℕ) → 256 * p * v + x * p ≡ p * (x + 256 * v)
more_worth p x v = omega arith

-- The same of `from_be_bytes`, in which the first byte is worth the most.
summed_back : (xs : List ℕ) (k m : ℕ) → m ≤ k → k < length xs → sum_through (λ i. byte_worth (k - i) (get_or xs i 0)) m ≡ 256 ^ (k - m) * value (reverse (take (suc m) xs))
summed_back xs k zero inside h =
    let first = take-suc xs 0 0 (omega arith) in
    rw (first, worth (k - 0) (get_or xs 0 0)) (first_worth (256 ^ (k - 0)) (get_or xs 0 0))
summed_back xs k (suc m) inside h =
    let next = take-suc xs (suc m) 0 (omega arith) in
    let before = summed_back xs k m (omega arith) h in
    let fewer : k - m ≡ suc (k - suc m) = omega arith in
    rw (next, before, worth (k - suc m) (get_or xs (suc m) 0), fewer, reverse-append, pow-succ') (more_worth (256 ^ (k - suc m)) (get_or xs (suc m) 0) (value (reverse (take (suc m) xs))))

-- What std makes of k + 1 bytes.
abbrev pub made : ByteOrder → ℕ → List ℕ → ℕ
made Little k bytes = sum_through (λ i. byte_worth i (get_or bytes i 0)) k
made Big k bytes = sum_through (λ i. byte_worth (k - i) (get_or bytes i 0)) k

made_is : (o : ByteOrder) (k : ℕ) (bytes : List ℕ) → length bytes ≡ suc k → made o k bytes ≡ value (least_first o bytes)
unfolding least_first
made_is Little k bytes len = summed bytes k (omega arith) ∙ ap value (take_all (suc k) bytes (omega arith))
made_is Big k bytes len =
    let whole : take (suc k) bytes ≡ bytes = take_all (suc k) bytes (omega arith) in
    let none : k - k ≡ 0 = omega arith in
    rw (summed_back bytes k k (omega arith) (omega arith), whole, none, one-mul)

-- A number of k + 1 bytes, as code makes it of the bytes that it finds.
pub number_found : (o : ByteOrder) (k : ℕ) (s : List ℕ) (off : ℕ) {bytes : List ℕ} {n : ℕ} → n ≡ made o k bytes → Some bytes ≡ part_at (suc k) s off → Some n ≡ field (λ n. n) o (suc k) s off
number_found o k s off {bytes} is found =
    let there = part_found (suc k) s off found in
    let inside = there.0 in
    let len : length bytes ≡ suc k = ap length there.1 ∙ length-take-le (suc k) (drop off s) (simp length-drop (omega arith)) in
    ap Some (is ∙ made_is o k bytes len) ∙ of_bytes (λ n. n) o (suc k) s off found
