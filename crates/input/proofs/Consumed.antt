-- What one read after another consumes of the known bytes, and how it lies in the buffer.
use Rattle.std.proofs.Common.{ℕ, ◌+◌, ◌≤◌, ◌≡◌, ap, ◌∙◌, List, ◌++◌, length, take, Option}
use Rattle.std.proofs.KnownBytes.{Consumes-trans}
use Rattle.std.proofs.lemmas.List.{length-take-le, take-append-le}
use Rattle.std.proofs.Math.Seq.{take-append-add}
use Rattle.std.specs.Io.KnownBytes.{Consumes}
use borrow.Rule.Slice.PartMut.{put_mid, post_of}

filled : (at len n : ℕ) (buf part : List ℕ) → at ≤ length buf → n ≤ length part → take (at + n) (put_mid at len buf part) ≡ take at buf ++ take n part
filled at len n buf part h k =
    let front : length (take at buf) ≡ at = length-take-le at buf h in
    (rw front at (take-append-add (take at buf) (part ++ post_of at len buf) n)) ∙ ap (λ t. take at buf ++ t) (take-append-le n part (post_of at len buf) k)

-- A further read into the buffer from a place on.
pub goes_on : (old mid new : Option (List ℕ)) (at len n : ℕ) (buf part : List ℕ) → at ≤ length buf → n ≤ length part
    → Consumes old mid (take at buf) → Consumes mid new (take n part) → Consumes old new (take (at + n) (put_mid at len buf part))
goes_on old mid new at len n buf part h k a b = rw (filled at len n buf part h k) (Consumes-trans old mid new _ _ a b)
