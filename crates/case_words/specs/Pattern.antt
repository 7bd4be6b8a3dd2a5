-- What is told of a number: its 32-bit pattern, and of a NaN that it has none.
use Rattle.std.specs.Prelude.{ℕ, ◌-◌, ◌^◌, false, List, [], if◌then◌else◌, Float, Option, Some, None, codes}
use Rattle.std.specs.Fmt.{digits, format_spec, padded_integral}
use Rattle.std.specs.Float.{binary32}
use Rattle.std.specs.Float.Ieee.{is_nan, to_bits}

unfoldable pub pattern_of : Float → Option ℕ
pattern_of x = if is_nan x then None else Some (to_bits binary32 x)

-- As text: eight hexadecimal digits, or nan.
abbrev pub told_of : Option ℕ → List ℕ
told_of None = codes "nan"
told_of (Some bits) = padded_integral (format_spec 32 0 4 8 (2 ^ 64 - 1)) false [] (digits 16 false bits)
