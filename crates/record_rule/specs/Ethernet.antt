-- IEEE 802.3 and 802.1Q: the EtherType stands at 12, or at 16 after one tag, whose type is 0x8100. The IP header
-- follows it.
use Rattle.std.specs.Prelude.{ℕ, ◌+◌, cond, List, eqb}
use Rattle.fields.specs.Number.{big, unsigned_at}

unfoldable pub type_at : List ℕ → ℕ
type_at bytes = cond (eqb (unsigned_at big 2 bytes 12) 0x8100) 16 12

unfoldable pub ether_type : List ℕ → ℕ
unfolding type_at
ether_type bytes = unsigned_at big 2 bytes (type_at bytes)

unfoldable pub ip_start : List ℕ → ℕ
unfolding type_at
ip_start bytes = type_at bytes + 2
