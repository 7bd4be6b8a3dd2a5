-- The worked cases of where a payload ends: padding, UDP lengths, fragments. Each record stands in both readings, after
-- the magic by which each takes its lengths.
use Rattle.std.specs.Prelude.{ℕ, List, [], ◌∷◌, ◌++◌, length}
use Rattle.points.specs.ReadInto.{outcome}
use Rattle.record_rule.specs.declared.reading.Reading.TheVariants.{Rust, Savefile}
use Rattle.record_rule.specs.declared.time.TimeUnit.TheVariants.{Microseconds}
use Rattle.claims.specs.Call.{Payload, capture, payload_of, velodyne, payload, payloads, part, reading}
use Rattle.claims.specs.Row.{Row, ◌tells◌, dump, times}
use Rattle.claims.specs.Capture.{file_d4, file_a1, header, addresses, tag}

-- An IPv4 header of IHL 5, by its flags and offset; one of IHL 6; and a UDP header for port 2368, by its length. The
-- total length, which is not looked at, is that of three bytes of payload.
ip : ℕ → List ℕ
unfolding dump
ip fragment = dump 6 0x4500001f_0001 ++ dump 2 fragment ++ dump 12 0x40110000_c0a801c9_ffffffff

ip_of_six_words : List ℕ
unfolding dump
ip_of_six_words = dump 24 0x46000023_00010000_40110000_c0a801c9_ffffffff_01010101

udp : ℕ → List ℕ
unfolding dump
udp stated = dump 4 0x0940_0940 ++ dump 2 stated ++ dump 2 0x0000

-- A record of these bytes after the addresses, and of an untagged packet.
recorded : List ℕ → List ℕ
unfolding header addresses
recorded frame = header (length (addresses ++ frame)) ++ addresses ++ frame

untagged : List ℕ → List ℕ
unfolding recorded
untagged packet = recorded (0x08 ∷ 0x00 ∷ packet)

abc : List ℕ
abc = 0x61 ∷ 0x62 ∷ 0x63 ∷ []

padding : List ℕ
unfolding times
padding = times 15 (0x00 ∷ [])

-- One record, and what the savefile reading and the Rust's have of it.
both : List ℕ → List Payload → List Payload → List Row
both bytes by_savefile by_rust =
    capture Savefile 0 (file_d4 ++ bytes) tells payloads 0 by_savefile
    ∷ capture Rust 0 (file_a1 ++ bytes) tells payloads 0 by_rust
    ∷ []

unfoldable pub padding_rows : List Row
unfolding times file_d4 file_a1 tag ip ip_of_six_words udp untagged abc padding both
padding_rows =
    -- Padding to 60 bytes is not payload; to the Rust it is.
    both (untagged (ip 0 ++ udp 11 ++ abc ++ padding)) (payload 24 82 abc ∷ []) (payload 24 82 (abc ++ padding) ∷ [])
    -- UDP lengths, of a record that holds three bytes after the header: none, the header's alone, one byte, all, one
    -- byte more, and the largest.
    ++ both (untagged (ip 0 ++ udp 0 ++ abc)) [] (payload 24 82 abc ∷ [])
    ++ both (untagged (ip 0 ++ udp 8 ++ abc)) [] (payload 24 82 abc ∷ [])
    ++ both (untagged (ip 0 ++ udp 9 ++ abc)) (payload 24 82 (0x61 ∷ []) ∷ []) (payload 24 82 abc ∷ [])
    ++ both (untagged (ip 0 ++ udp 11 ++ abc)) (payload 24 82 abc ∷ []) (payload 24 82 abc ∷ [])
    ++ both (untagged (ip 0 ++ udp 12 ++ abc)) [] (payload 24 82 abc ∷ [])
    ++ both (untagged (ip 0 ++ udp 65535 ++ abc)) [] (payload 24 82 abc ∷ [])
    -- Fragments: offset 1, the largest offset, and more to come.
    ++ both (untagged (ip 0x0001 ++ udp 11 ++ abc)) [] (payload 24 82 abc ∷ [])
    ++ both (untagged (ip 0x1fff ++ udp 11 ++ abc)) [] (payload 24 82 abc ∷ [])
    ++ both (untagged (ip 0x2000 ++ udp 11 ++ abc)) [] (payload 24 82 abc ∷ [])
    -- Don't-fragment and the reserved flag make no fragment.
    ++ both (untagged (ip 0x4000 ++ udp 11 ++ abc)) (payload 24 82 abc ∷ []) (payload 24 82 abc ∷ [])
    ++ both (untagged (ip 0x8000 ++ udp 11 ++ abc)) (payload 24 82 abc ∷ []) (payload 24 82 abc ∷ [])
    -- IHL 6, and a tag, padded: in both the UDP length counts from the UDP header on.
    ++ both (untagged (ip_of_six_words ++ udp 11 ++ abc ++ padding)) (payload 24 86 abc ∷ []) (payload 24 86 (abc ++ padding) ∷ [])
    ++ both (recorded (tag ++ 0x08 ∷ 0x00 ∷ ip 0 ++ udp 11 ++ abc ++ padding)) (payload 24 86 abc ∷ []) (payload 24 86 (abc ++ padding) ∷ [])
    -- The walk goes on after the record, padding and all. A fragment has no rank.
    ++ both
    (untagged (ip 0 ++ udp 11 ++ abc ++ padding) ++ untagged (ip 0x2000 ++ udp 11 ++ abc) ++ untagged (ip 0 ++ udp 9 ++ abc))
    (payload 24 82 abc ∷ payload 161 219 (0x61 ∷ []) ∷ [])
    (payload 24 82 (abc ++ padding) ∷ payload 100 158 abc ∷ payload 161 219 abc ∷ [])
    -- A record that is passed over, alone: the part is empty, and a reader of captures gives 9.
    ++ payload_of Savefile 0 0 (file_d4 ++ untagged (ip 0 ++ udp 8 ++ abc)) tells part [] 0 0 Microseconds
    ∷ velodyne Savefile (file_d4 ++ untagged (ip 0x2000 ++ udp 11 ++ abc)) [] [] tells reading (outcome 9 0 0 [] [])
    ∷ velodyne Rust (file_a1 ++ untagged (ip 0x2000 ++ udp 11 ++ abc)) [] [] tells reading (outcome 0 0 0 [] [])
    ∷ []
