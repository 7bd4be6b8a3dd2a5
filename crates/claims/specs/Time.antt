-- The worked cases of a payload's time: each magic in both readings; parts that are empty; fractions below a second, at
-- a second and beyond it; and the time of a later record. Each row names its reading.
use Rattle.std.specs.Prelude.{ℕ, List, [], ◌∷◌, ◌++◌, take}
use Rattle.record_rule.specs.declared.reading.Reading.TheVariants.{Rust, Savefile}
use Rattle.record_rule.specs.declared.time.TimeUnit.TheVariants.{Microseconds, Nanoseconds}
use Rattle.claims.specs.Call.{payload_of, part}
use Rattle.claims.specs.Row.{Row, ◌tells◌, dump}
use Rattle.claims.specs.Capture.{file_d4, file_a1, file4d, file_a1_nanoseconds, captured43}

-- A record of 43 bytes, by the eight bytes of its time: its lengths least significant byte first, or most first.
least_first : ℕ → List ℕ
unfolding dump captured43
least_first time = dump 8 time ++ dump 8 0x2b000000_2b000000 ++ captured43

most_first : ℕ → List ℕ
unfolding dump captured43
most_first time = dump 8 time ++ dump 8 0x0000002b_0000002b ++ captured43

unfoldable pub time_rows : List Row
unfolding dump file_d4 file_a1 file4d file_a1_nanoseconds least_first most_first
time_rows =
    -- The byte order is the reading's, and the unit the magic's.
    payload_of Savefile 0 0 (file_d4 ++ least_first 0x01234567_000abcde) tells part (0xab ∷ []) 0x67452301 0xdebc0a00 Microseconds
    ∷ payload_of Savefile 0 0 (file_a1 ++ most_first 0x01234567_000abcde) tells part (0xab ∷ []) 0x01234567 0x000abcde Microseconds
    ∷ payload_of Savefile 0 0 (file4d ++ least_first 0x01234567_000abcde) tells part (0xab ∷ []) 0x67452301 0xdebc0a00 Nanoseconds
    ∷ payload_of Savefile 0 0 (file_a1_nanoseconds ++ most_first 0x01234567_000abcde) tells part (0xab ∷ []) 0x01234567 0x000abcde Nanoseconds
    ∷ payload_of Rust 0 0 (file_d4 ++ most_first 0x01234567_000abcde) tells part (0xab ∷ []) 0x01234567 0x000abcde Microseconds
    ∷ payload_of Rust 0 0 (file_a1 ++ least_first 0x01234567_000abcde) tells part (0xab ∷ []) 0x67452301 0xdebc0a00 Microseconds
    ∷ payload_of Rust 0 0 (file4d ++ most_first 0x01234567_000abcde) tells part (0xab ∷ []) 0x01234567 0x000abcde Nanoseconds
    ∷ payload_of Rust 0 0 (file_a1_nanoseconds ++ least_first 0x01234567_000abcde) tells part (0xab ∷ []) 0x67452301 0xdebc0a00 Nanoseconds
    -- An empty part has 0, 0 and microseconds, also after a magic for nanoseconds: no payload of that rank, none on the
    -- port, no record that the reading takes, and a capture that is refused.
    ∷ payload_of Savefile 0 1 (file4d ++ least_first 0x01234567_000abcde) tells part [] 0 0 Microseconds
    ∷ payload_of Rust 2369 0 (file4d ++ most_first 0x01234567_000abcde) tells part [] 0 0 Microseconds
    ∷ payload_of Rust 0 0 (file4d ++ least_first 0x01234567_000abcde) tells part [] 0 0 Microseconds
    ∷ payload_of Savefile 0 0 (take 23 file4d) tells part [] 0 0 Microseconds
    -- The fraction is told as stored: 0, the last below a second, a second, and the largest.
    ∷ payload_of Savefile 0 0 (file_a1 ++ most_first 0x01234567_00000000) tells part (0xab ∷ []) 0x01234567 0 Microseconds
    ∷ payload_of Savefile 0 0 (file_a1 ++ most_first 0x01234567_000f423f) tells part (0xab ∷ []) 0x01234567 999999 Microseconds
    ∷ payload_of Savefile 0 0 (file_a1 ++ most_first 0x01234567_000f4240) tells part (0xab ∷ []) 0x01234567 1000000 Microseconds
    ∷ payload_of Savefile 0 0 (file_a1 ++ most_first 0x01234567_ffffffff) tells part (0xab ∷ []) 0x01234567 4294967295 Microseconds
    ∷ payload_of Savefile 0 0 (file_a1_nanoseconds ++ most_first 0x01234567_3b9aca00) tells part (0xab ∷ []) 0x01234567 1000000000 Nanoseconds
    -- A later payload has the time of its own record.
    ∷ payload_of Savefile 0 1 (file4d ++ least_first 0x01234567_000abcde ++ least_first 0x89abcdef_000f4240)
    tells part (0xab ∷ []) 0xefcdab89 0x40420f00 Nanoseconds
    ∷ []
