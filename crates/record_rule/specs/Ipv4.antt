-- RFC 791: the version and the header's length in words of four bytes (IHL) share the first byte; three flags and the
-- fragment offset stand at 6, the protocol at 9. The UDP header starts four times the IHL after the IP header's start;
-- with an IHL below 5, which only the Rust's reading takes, that lies inside the IP header. Only the savefile reading
-- looks at more-fragments and the offset. Neither reading looks at the other two flags, the total length or the checksum.
use Rattle.std.specs.Prelude.{ℕ, ◌+◌, ◌*◌, ◌/◌, ◌%◌, Bool, not, ◌||◌, List, eqb, get_or}
use Rattle.fields.specs.Number.{big, unsigned_at}
use Rattle.record_rule.specs.Ethernet.{ip_start}

unfoldable pub version : List ℕ → ℕ
version bytes = get_or bytes (ip_start bytes) 0 / 16

unfoldable pub ihl : List ℕ → ℕ
ihl bytes = get_or bytes (ip_start bytes) 0 % 16

-- From the highest bit down: reserved, don't-fragment, more-fragments, and 13 bits of offset.
unfoldable pub flags_and_offset : List ℕ → ℕ
flags_and_offset bytes = unsigned_at big 2 bytes (ip_start bytes + 6)

unfoldable pub more_fragments : List ℕ → Bool
more_fragments bytes = eqb ((flags_and_offset bytes / 0x2000) % 2) 1

unfoldable pub fragment_offset : List ℕ → ℕ
fragment_offset bytes = flags_and_offset bytes % 0x2000

-- A packet is a fragment where more-fragments is set, or its offset is not 0. The other two flags make none.
unfoldable pub is_fragment : List ℕ → Bool
is_fragment bytes = more_fragments bytes || not (eqb (fragment_offset bytes) 0)

unfoldable pub protocol : List ℕ → ℕ
protocol bytes = get_or bytes (ip_start bytes + 9) 0

unfoldable pub udp_start : List ℕ → ℕ
unfolding ihl
udp_start bytes = ip_start bytes + 4 * ihl bytes
