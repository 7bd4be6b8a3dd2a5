-- The worked cases of placing: 1,500 mm with datum 4,294,967,000, count 704 and pulses of 250 micrometres; 16,000 mm
-- and no pulses; one pulse of 1 micrometre more. Beside them, a point of a file. A row tells the number, the exact
-- micrometres, and the distance by its pattern.
use Rattle.std.specs.Prelude.{List, [], ◌∷◌, ℤ, pos, neg_ℤ}
use Rattle.livox_form.specs.declared.Form.TheVariants.{Lvx2}
use Rattle.livox_stored.specs.Stored.{millimetres, ten_millimetres, spherical}
use Rattle.placing.specs.Placing.{Asked, by_reading}
use Rattle.placing_in_file.specs.InFile.{by_rank}
use Rattle.claims.specs.Call.{place, placed}
use Rattle.claims.specs.Livox.{file77}
use Rattle.claims.specs.Row.{Row, ◌tells◌}

-- A point so many millimetres along the belt.
abbrev at : ℤ → Asked
at x = by_reading (millimetres x (pos 7) (pos 9))

unfoldable pub placing_rows : List Row
unfolding file77
placing_rows =
    -- The count has wrapped: 1,000 pulses. 1.75 m.
    place (at (pos 1500)) 704 4294967000 250 tells placed 0 (pos 1750000) 0x3fe00000
    -- 16.0 m, and -16.0 m.
    ∷ place (at (pos 16000)) 704 704 1 tells placed 0 (pos 16000000) 0x41800000
    ∷ place (at (neg_ℤ (pos 16000))) 704 704 1 tells placed 0 (neg_ℤ (pos 16000000)) 0xc1800000
    -- A pulse more, either way: 13.
    ∷ place (at (pos 16000)) 705 704 1 tells placed 13 (pos 16000001) 0
    ∷ place (at (neg_ℤ (pos 16000))) 703 704 1 tells placed 13 (neg_ℤ (pos 16000001)) 0
    -- A count of ten millimetres.
    ∷ place (by_reading (ten_millimetres (pos 175) (pos 0) (pos 0))) 0 0 1 tells placed 0 (pos 1750000) 0x3fe00000
    -- A spherical point, before a pulse length that is 0: 11.
    ∷ place (by_reading (spherical 1500 0 0)) 0 0 0 tells placed 11 (pos 0) 0
    -- The point of the 77 bytes, and none beyond it.
    ∷ place (by_rank Lvx2 file77 0) 0 0 1 tells placed 0 (pos 1750000) 0x3fe00000
    ∷ place (by_rank Lvx2 file77 1) 0 0 1 tells placed 11 (pos 0) 0
    ∷ []
