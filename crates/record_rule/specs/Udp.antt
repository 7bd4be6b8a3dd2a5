-- RFC 768: a header of eight bytes, the destination port at 2, the length of header and payload together at 4. The
-- payload follows the header. Only the savefile reading looks at the length. Neither reading looks at the checksum.
use Rattle.std.specs.Prelude.{ℕ, ◌+◌, ◌-◌, Bool, ◌||◌, List, ltb, length}
use Rattle.fields.specs.Number.{big, unsigned_at}
use Rattle.record_rule.specs.declared.reading.Reading.{Reading}
use Rattle.record_rule.specs.declared.reading.Reading.TheVariants.{Rust, Savefile}
use Rattle.record_rule.specs.Ipv4.{udp_start}

unfoldable pub destination_port : List ℕ → ℕ
destination_port bytes = unsigned_at big 2 bytes (udp_start bytes + 2)

unfoldable pub udp_length : List ℕ → ℕ
udp_length bytes = unsigned_at big 2 bytes (udp_start bytes + 4)

-- What the record holds from the UDP header on.
unfoldable pub held_from_udp : List ℕ → ℕ
held_from_udp bytes = length bytes - udp_start bytes

-- A length below 9, which leaves no byte of payload, or more than the record holds from the UDP header on.
unfoldable pub bad_udp_length : List ℕ → Bool
bad_udp_length bytes = ltb (udp_length bytes) 9 || ltb (held_from_udp bytes) (udp_length bytes)

unfoldable pub payload_start : List ℕ → ℕ
payload_start bytes = udp_start bytes + 8

-- In the Rust's reading the payload runs to the record's end. In the savefile reading it ends where a good UDP length
-- says: what the record holds beyond that is padding.
unfoldable pub payload_len : Reading → List ℕ → ℕ
unfolding payload_start
payload_len Rust bytes = length bytes - payload_start bytes
payload_len Savefile bytes = udp_length bytes - 8
