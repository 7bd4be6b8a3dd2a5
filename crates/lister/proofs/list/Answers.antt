-- What was read had room, by the reader's contract: the cut lies inside.
use Rattle.std.proofs.Common.{arith}
use Rattle.std.proofs.lemmas.List.{length-take-le}
use Rattle.lister.proofs.Room.{points_fit}
use Rattle.lister.proofs.list.Goals as goal

pub slice_bounds-kinds-end : goal.slice_bounds-kinds-end
slice_bounds-kinds-end g c = omega (arith, points_fit _ _ _ _ c.in-Ok.counts c.in-Ok.ensures, c.read.auto.kinds)

pub slice_bounds-list_points-end-then-write : goal.slice_bounds-list_points-end-then-write
slice_bounds-list_points-end-then-write g c = omega (arith, points_fit _ _ _ _ c.in-Ok.counts c.in-Ok.ensures, c.read.auto.kinds, length-take-le c.in-Ok.counts.points c.read.new.kinds)
