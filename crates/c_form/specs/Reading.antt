-- How C names the reading of a capture.
use Rattle.std.specs.Prelude.{Bool, true, false}
use Rattle.record_rule.specs.declared.reading.Reading.{Reading}
use Rattle.record_rule.specs.declared.reading.Reading.TheVariants.{Rust, Savefile}

abbrev pub reading_of : Bool → Reading
reading_of true = Savefile
reading_of false = Rust
