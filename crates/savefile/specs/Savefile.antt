-- The libpcap savefile format: a file header of 24 bytes, then records of a 16-byte header and the captured bytes.
-- Neither reading looks at the version or the link type.
use Rattle.std.specs.Prelude.{ℕ, zero, suc, ◌+◌, Bool, cond, not, ◌||◌, List, [], ◌∷◌, leb, ltb, eqb, length}
use Rattle.fields.specs.declared.ByteOrder.{ByteOrder}
use Rattle.fields.specs.declared.ByteOrder.TheVariants.{Little, Big}
use Rattle.fields.specs.Number.{big, unsigned_at}
use Rattle.points.specs.ReadInto.{Check, too_long}
use Rattle.record_rule.specs.declared.Record.{Record}
use Rattle.record_rule.specs.declared.reading.Reading.{Reading}
use Rattle.record_rule.specs.declared.reading.Reading.TheVariants.{Rust, Savefile}
use Rattle.record_rule.specs.declared.time.TimeUnit.{TimeUnit}
use Rattle.record_rule.specs.declared.time.TimeUnit.TheVariants.{Microseconds, Nanoseconds}
use Rattle.record_rule.specs.declared.time.Timestamp.{Timestamp}
use Rattle.record_rule.specs.Captured.{record_end}
use Rattle.savefile.specs.declared.RecordFormat.{RecordFormat}

-- The magic's four bytes as they stand in the file, for microseconds and for nanoseconds. They are read as big-endian
-- only so that the digits here stand as the bytes do there.
-- d4 c3 b2 a1 and 4d 3c b2 a1
unfoldable pub least_first_magic : List ℕ → Bool
least_first_magic bytes = eqb (unsigned_at big 4 bytes 0) 0xd4c3b2a1 || eqb (unsigned_at big 4 bytes 0) 0x4d3cb2a1

-- their reverses, a1 b2 c3 d4 and a1 b2 3c 4d
unfoldable pub most_first_magic : List ℕ → Bool
most_first_magic bytes = eqb (unsigned_at big 4 bytes 0) 0xa1b2c3d4 || eqb (unsigned_at big 4 bytes 0) 0xa1b23c4d

-- The byte order of the numbers of a record's header. The format writes the magic in the file's own byte order; the Rust
-- takes it the other way round.
abbrev pub other : ByteOrder → ByteOrder
other Little = Big
other Big = Little

abbrev pub order_by : Reading → ByteOrder → ByteOrder
order_by Rust magic = other magic
order_by Savefile magic = magic

-- 4d 3c b2 a1 and a1 b2 3c 4d state nanoseconds.
unfoldable pub nanosecond_magic : List ℕ → Bool
nanosecond_magic bytes = eqb (unsigned_at big 4 bytes 0) 0x4d3cb2a1 || eqb (unsigned_at big 4 bytes 0) 0xa1b23c4d

-- The unit of the records' fractions, by the magic alone: the reading decides the byte order, and not the unit.
unfoldable pub unit_of : List ℕ → TimeUnit
unfolding nanosecond_magic
unit_of bytes = cond (nanosecond_magic bytes) Nanoseconds Microseconds

-- How the records of a file are written: by its magic, and for the byte order by the reading.
abbrev pub format_by : Reading → ByteOrder → TimeUnit → RecordFormat
format_by reading magic unit = record { order = order_by reading magic; unit = unit }

unfoldable pub format_of : Reading → List ℕ → RecordFormat
unfolding least_first_magic unit_of
format_of reading bytes = format_by reading (cond (least_first_magic bytes) Little Big) (unit_of bytes)

-- 3: the data is below 24 bytes; 4: the magic is none of the four. Both readings have the same checks.
unfoldable pub file_checks : Reading → List ℕ → List Check
unfolding least_first_magic most_first_magic
file_checks reading bytes = (3, ltb (length bytes) 24) ∷ (4, not (least_first_magic bytes || most_first_magic bytes)) ∷ []

-- A capture's checks: 1, then those of its header.
unfoldable pub checks : Reading → List ℕ → List Check
unfolding file_checks
checks reading bytes = too_long bytes ∷ file_checks reading bytes

-- The captured length that the record header at a place states.
abbrev pub captured_at : RecordFormat → List ℕ → ℕ → ℕ
captured_at format bytes at = unsigned_at format.order 4 bytes (at + 8)

-- The time that it states: seconds in its bytes 0 to 3, the fraction as stored in bytes 4 to 7.
abbrev pub time_at : RecordFormat → List ℕ → ℕ → Timestamp
time_at format bytes at = record { seconds = unsigned_at format.order 4 bytes at; fraction = unsigned_at format.order 4 bytes (at + 4); unit = format.unit }

-- The record whose header stands at a place. Its captured bytes follow the header.
abbrev pub record_at : RecordFormat → List ℕ → ℕ → Record
record_at format bytes at =
    record { header = at; body = at + 16; len = captured_at format bytes at; time = time_at format bytes at }

-- The records from a place on. A record that runs past the data ends the walk, and so does a header that does, whatever
-- length would be read there. The bound on their number is not felt: by the law `enough` of proofs/Records.antt, every
-- bound from the data's length on gives the same records.
unfoldable pub records_from : ℕ → RecordFormat → List ℕ → ℕ → List Record
records_from zero format bytes at = []
records_from (suc bound) format bytes at =
    let r = record_at format bytes at in
    cond (leb (record_end r) (length bytes)) (r ∷ records_from bound format bytes (record_end r)) []

-- All records from a place on: each takes bytes of the data, so that its length is bound enough.
abbrev pub all_records_from : RecordFormat → List ℕ → ℕ → List Record
all_records_from format bytes at = records_from (length bytes) format bytes at
