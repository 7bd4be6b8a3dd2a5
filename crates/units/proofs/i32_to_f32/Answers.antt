-- `units::i32_to_f32` meets its contract: `halves` at n / 65536, rounded down, and the lower sixteen of n's bits.
use Rattle.std.proofs.lemmas.Int.{to_z-of_z, to_z_pos}
use Rattle.std.proofs.Common.{◌≡◌, ◌∙◌, ap, ◌/◌, ◌%◌, suc, ◌*◌, div-add-mod', arith, ℤ, pos, negsuc, ◌+ℤ◌, ◌*ℤ◌, bit_and, w16, w32, SFits, of_z, to_z}
use lib.Signed.{shr_z, mag_shr}
use Rattle.std.proofs.lemmas.Nat.{and_mask}
use Rattle.std.specs.Float.Ieee.{binary32, of_int}
use mir.ValLaws.{sfits_le}
use Rattle.units.proofs.Halves.{halves, below_zero}
use Rattle.units.proofs.i32_to_f32.Goals as goal

floor-fits : (z : ℤ) → SFits w32 z → SFits w16 (shr_z z 65536)
floor-fits (pos a) h = omega arith
floor-fits (negsuc a) h = omega arith

-- the upper half, as the machine reads it back from its bits
floor-is : (z : ℤ) → SFits w32 z → to_z w32 (of_z w32 (shr_z (to_z w32 (of_z w32 z)) 65536)) ≡ shr_z z 65536
floor-is z h = rw (to_z-of_z w32 z) (to_z-of_z w32 (shr_z z 65536) (sfits_le (mag_shr z 65536) h))

rest-is : (z : ℤ) → to_z w32 (bit_and (of_z w32 z) 65535) ≡ pos (of_z w32 z % 65536)
rest-is z = rw (and_mask (of_z w32 z) 16) (to_z_pos w32 (of_z w32 z % 65536) (omega arith))

joined : (z : ℤ) → SFits w32 z → shr_z z 65536 *ℤ pos 65536 +ℤ pos (of_z w32 z % 65536) ≡ z
joined (pos a) h = ap pos (div-add-mod' a 65536)
joined (negsuc a) h = below_zero _ (suc (a / 65536) * 65536) (omega arith) ∙ ap negsuc (omega arith)

pub returns : goal.returns
returns c = let n = c.args.n in
    let h = c.ranges.n in
    rw (floor-is n h, to_z-of_z w16 _ (floor-fits n h), rest-is n)
    (halves (shr_z n 65536) (of_z w32 n % 65536) (omega (arith, floor-fits n h)) (omega arith) ∙ ap (of_int binary32) (joined n h))
