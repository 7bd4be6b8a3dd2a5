-- How C is told a placing: the number, and the distance by reference, which a refusal leaves as it was.
use Rattle.std.specs.Prelude.{ℕ, zero, suc, Float}
use Rattle.placing.specs.Placing.{Placement, told, refused}

abbrev pub tell_placed : Placement → Float → ℕ × Float
tell_placed (told x) before = (0, x)
tell_placed (refused number) before = (number, before)

-- What a caller in C receives by it: with 0 the distance, and with every other number that refusal.
abbrev pub received : ℕ × Float → Placement
received (zero, x) = told x
received (suc r, x) = refused (suc r)
