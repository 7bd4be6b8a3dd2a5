-- A file that was read had room for its points: 10 is the last check, and no check applied.
use Rattle.std.proofs.Common.{ℕ, zero, suc, ◌≤◌, arith, ◌≡◌, refl, List, length, Ok}
use Rattle.std.proofs.lemmas.Bool.Decides.{nat_tests}
use Rattle.answers.specs.declared.Counts.{Counts}
use Rattle.points.specs.declared.point.Point.{Point}
use Rattle.points.specs.ReadInto.{number_given, outcome, outcome_of, read_into, answered}
use Rattle.livox_form.specs.declared.Form.{Form}
use Rattle.livox_form.specs.declared.Form.TheVariants.{Lvx, Lvx2}
use Rattle.livox_header.specs.Header.{checks}
use Rattle.livox_file.specs.Livox.{read_livox_bits}

had_room : (form : Form) (bytes : List ℕ) (count numbers kinds : ℕ) → number_given (checks form bytes) count numbers kinds ≡ 0 → count ≤ kinds
unfolding checks number_given
had_room Lvx bytes count numbers kinds passes = grind (arith, nat_tests)
had_room Lvx2 bytes count numbers kinds passes = grind (arith, nat_tests)

all_read : {A : Type 0} (n : ℕ) (points : List (Point A)) (frames : ℕ) (ns : List A) (ks : List ℕ) {p f : ℕ} {ns' : List A} {ks' : List ℕ}
    → outcome 0 p f ns' ks' ≡ outcome_of n points frames ns ks → (n ≡ 0) × (p ≡ length points)
all_read zero points frames ns ks e = (refl, cc)
all_read (suc n) points frames ns ks e = cc

pub points_fit : (form : Form) (bytes ns ks : List ℕ) {ns' ks' : List ℕ} (counts : Counts) → answered (Ok counts) ns' ks' ≡ read_livox_bits form bytes ns ks → counts.points ≤ length ks
unfolding read_into
points_fit form bytes ns ks counts read =
    let all = all_read _ _ _ ns ks read in
    rw all.1 (had_room form bytes _ _ _ all.0)
