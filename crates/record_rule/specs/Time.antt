-- When a record was captured, as its capture states it.
use Rattle.std.specs.Prelude.{ℕ}
use Rattle.record_rule.specs.declared.time.TimeUnit.{TimeUnit}
use Rattle.record_rule.specs.declared.time.TimeUnit.TheVariants.{Microseconds, Nanoseconds}
use Rattle.record_rule.specs.declared.time.Timestamp.{Timestamp}

-- A unit as a number.
abbrev pub unit_number : TimeUnit → ℕ
unit_number Microseconds = 0
unit_number Nanoseconds = 1

-- A time as three numbers: seconds, fraction, unit.
abbrev pub time_numbers : Timestamp → ℕ × ℕ × ℕ
time_numbers t = (t.seconds, t.fraction, unit_number t.unit)

-- The time that is told with an empty part: 0, 0 and microseconds, whatever the magic says.
abbrev pub no_time : Timestamp
no_time = record { seconds = 0; fraction = 0; unit = Microseconds }
