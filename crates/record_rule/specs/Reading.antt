-- How a capture is read.
use Rattle.record_rule.specs.declared.reading.Reading.{Reading}
use Rattle.record_rule.specs.declared.reading.Reading.TheVariants.{Rust}

-- The reading of a caller who names none.
abbrev pub usual : Reading
usual = Rust
