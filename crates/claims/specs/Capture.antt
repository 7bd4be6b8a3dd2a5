-- The worked cases of captures: 24 good bytes; a record of 42 bytes, and of 43; tagged, of 46 and of 47; the length
-- bytes 2b 00 00 00. Beside them, captures that are refused, ports, and more records than one. Each row names its
-- reading.
use Rattle.std.specs.Prelude.{ℕ, List, [], ◌∷◌, ◌++◌, take}
use Rattle.record_rule.specs.declared.reading.Reading.TheVariants.{Rust, Savefile}
use Rattle.claims.specs.Call.{capture, first_length, payload, payloads, length_stated}
use Rattle.claims.specs.Row.{Row, ◌tells◌, dump}

-- File headers, by the magic's first byte as it stands in the file: version 2.4, Ethernet. For microseconds, then for
-- nanoseconds.
unfoldable pub file_d4 : List ℕ
unfolding dump
file_d4 = dump 24 0xd4c3b2a1_02000400_00000000_00000000_00000400_01000000

unfoldable pub file_a1 : List ℕ
unfolding dump
file_a1 = dump 24 0xa1b2c3d4_00020004_00000000_00000000_00040000_00000001

unfoldable pub file4d : List ℕ
unfolding dump
file4d = dump 24 0x4d3cb2a1_02000400_00000000_00000000_00000400_01000000

unfoldable pub file_a1_nanoseconds : List ℕ
unfolding dump
file_a1_nanoseconds = dump 24 0xa1b23c4d_00020004_00000000_00000000_00040000_00000001

-- A record header of this length, the least significant byte first.
unfoldable pub header : ℕ → List ℕ
unfolding dump
header n = dump 8 0x01000000_02000000 ++ n ∷ 0 ∷ 0 ∷ 0 ∷ n ∷ 0 ∷ 0 ∷ 0 ∷ []

-- Ethernet addresses, then an IPv4 header of IHL 5 and a UDP header for port 2368, both with true lengths: without a
-- payload, and with the byte ab.
unfoldable pub addresses : List ℕ
unfolding dump
addresses = dump 12 0xffffffffffff_60768801c901

unfoldable pub tag : List ℕ
tag = 0x81 ∷ 0x00 ∷ 0x00 ∷ 0x05 ∷ []

nothing : List ℕ
unfolding dump
nothing = dump 30 0x0800_4500001c_00010000_4011b85f_c0a801c9_ffffffff_09400940_00080000

one_byte : List ℕ
unfolding dump
one_byte = dump 31 0x0800_4500001d_00010000_4011b85e_c0a801c9_ffffffff_09400940_00090000_ab

-- The 43 bytes of a record that has that one.
unfoldable pub captured43 : List ℕ
unfolding addresses one_byte
captured43 = addresses ++ one_byte

record42 : List ℕ
unfolding header addresses nothing
record42 = header 42 ++ addresses ++ nothing

unfoldable pub record43 : List ℕ
unfolding header captured43
record43 = header 43 ++ captured43

record46 : List ℕ
unfolding header addresses tag nothing
record46 = header 46 ++ addresses ++ tag ++ nothing

record47 : List ℕ
unfolding header addresses tag one_byte
record47 = header 47 ++ addresses ++ tag ++ one_byte

unfoldable pub capture_rows : List Row
unfolding dump file_d4 file_a1 file4d file_a1_nanoseconds record42 record43 record46 record47
capture_rows =
    -- 24 good bytes: no payload, in both readings and with each magic.
    capture Savefile 0 file_d4 tells payloads 0 []
    ∷ capture Savefile 0 file_a1 tells payloads 0 []
    ∷ capture Savefile 0 file4d tells payloads 0 []
    ∷ capture Savefile 0 file_a1_nanoseconds tells payloads 0 []
    ∷ capture Rust 0 file_d4 tells payloads 0 []
    ∷ capture Rust 0 file_a1 tells payloads 0 []
    ∷ capture Rust 0 file4d tells payloads 0 []
    ∷ capture Rust 0 file_a1_nanoseconds tells payloads 0 []
    -- IHL 5, untagged: a record of 42 bytes gives nothing, 43 gives one byte. The Rust's reading takes these lengths
    -- after the reversed magic.
    ∷ capture Savefile 0 (file_d4 ++ record42) tells payloads 0 []
    ∷ capture Savefile 0 (file_d4 ++ record43) tells payloads 0 (payload 24 82 (0xab ∷ []) ∷ [])
    ∷ capture Rust 0 (file_a1 ++ record42) tells payloads 0 []
    ∷ capture Rust 0 (file_a1 ++ record43) tells payloads 0 (payload 24 82 (0xab ∷ []) ∷ [])
    -- Tagged: 46 and 47.
    ∷ capture Savefile 0 (file_d4 ++ record46) tells payloads 0 []
    ∷ capture Savefile 0 (file_d4 ++ record47) tells payloads 0 (payload 24 86 (0xab ∷ []) ∷ [])
    ∷ capture Rust 0 (file_a1 ++ record46) tells payloads 0 []
    ∷ capture Rust 0 (file_a1 ++ record47) tells payloads 0 (payload 24 86 (0xab ∷ []) ∷ [])
    -- First bytes d4 c3 b2 a1, length bytes 2b 00 00 00: the savefile reading has a record of 43 bytes, as above. By
    -- the Rust's reading it runs past the data.
    ∷ first_length Savefile (file_d4 ++ record43) tells length_stated 43
    ∷ first_length Rust (file_d4 ++ record43) tells length_stated 721420288
    ∷ capture Rust 0 (file_d4 ++ record43) tells payloads 0 []
    -- The reversed magic turns both round.
    ∷ first_length Rust (file_a1 ++ record43) tells length_stated 43
    ∷ capture Savefile 0 (file_a1 ++ record43) tells payloads 0 []
    -- Refusal 3: below 24 bytes. Refusal 4: the magic is none of the four.
    ∷ capture Savefile 0 (take 23 file_d4) tells payloads 3 []
    ∷ capture Savefile 0 (0x0a ∷ file_d4) tells payloads 4 []
    -- The port asked for, and another.
    ∷ capture Savefile 2368 (file_d4 ++ record43) tells payloads 0 (payload 24 82 (0xab ∷ []) ∷ [])
    ∷ capture Savefile 2369 (file_d4 ++ record43) tells payloads 0 []
    -- A record without a payload is passed over, and one that lacks its last byte ends the walk.
    ∷ capture Savefile 0 (file_d4 ++ record43 ++ record42 ++ record47 ++ take 58 record43)
    tells payloads 0 (payload 24 82 (0xab ∷ []) ∷ payload 141 203 (0xab ∷ []) ∷ [])
    ∷ []
