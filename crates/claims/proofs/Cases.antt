-- Each worked case holds by the definitions: antt computes what the calls of all rows tell, and finds what the rows say. Two functions that agree over a
-- list agree at each member of it, so that a new row needs no proof.
use Rattle.std.proofs.Common.{◌≡◌, refl, List, map}
use mathlib.Core.List.{Memᴰ}
use Rattle.claims.specs.Call.{tell}
use Rattle.claims.specs.Row.{Row}
use Rattle.claims.specs.Cases.{rows}

computed : map (λ row. tell row.call) rows ≡ map (λ row. row.told) rows
unfolding tell rows
computed = refl

at_member : {A B : Type 0} (f g : A → B) {x : A} {xs : List A} → Memᴰ x xs → map f xs ≡ map g xs → f x ≡ g x
at_member f g (Memᴰ.head e) p = cc
at_member f g (Memᴰ.tail m) p = at_member f g m (cc)

pub worked_cases : (row : Row) → Memᴰ row rows → tell row.call ≡ row.told
worked_cases row m = at_member (λ row. tell row.call) (λ row. row.told) m computed
