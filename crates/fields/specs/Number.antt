-- A number in a run of bytes, for any width and byte order.
use Rattle.std.specs.Prelude.{ℕ, ◌+◌, ◌*◌, if◌then◌else◌, List, [], ◌∷◌, reverse, length, take, drop, nat_le, Option, Some, None}
use Rattle.fields.specs.declared.ByteOrder.{ByteOrder}
use Rattle.fields.specs.declared.ByteOrder.TheVariants.{Little, Big}

-- Little-endian: the least significant byte comes first. Big-endian: the most significant one, as in the headers of
-- Ethernet, IP and UDP.
abbrev pub little : ByteOrder
little = Little

abbrev pub big : ByteOrder
big = Big

-- The number whose digits to the base 256 these are, the least significant first.
abbrev pub value : List ℕ → ℕ
value [] = 0
value (b ∷ bs) = b + 256 * value bs

-- The bytes in the order in which `value` takes them.
unfoldable pub least_first : ByteOrder → List ℕ → List ℕ
least_first Little bs = bs
least_first Big bs = reverse bs

-- The k bytes of s from off on, or none where they do not lie inside s.
unfoldable pub part_at : ℕ → List ℕ → ℕ → Option (List ℕ)
part_at k s off = if nat_le (off + k) (length s) then Some (take k (drop off s)) else None

-- The number in the k bytes of s from off on. It tells something only where they lie inside s.
unfoldable pub unsigned_at : ByteOrder → ℕ → List ℕ → ℕ → ℕ
unfolding least_first
unsigned_at o k s off = value (least_first o (take k (drop off s)))

-- What a reader of k bytes at off answers: the number, made of the unsigned one, or none where the k bytes do not lie
-- inside s.
unfoldable pub field : {A : Type 0} → (ℕ → A) → ByteOrder → ℕ → List ℕ → ℕ → Option A
unfolding unsigned_at
field wrap o k s off = if nat_le (off + k) (length s) then Some (wrap (unsigned_at o k s off)) else None
