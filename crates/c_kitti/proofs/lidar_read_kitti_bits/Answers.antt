-- What is told is what the reader answers, with the points as stored.
use Rattle.std.proofs.Common.{◌∙◌}
use Rattle.kitti.proofs.Records.{as_stored}
use Rattle.c_kitti.proofs.lidar_read_kitti_bits.Goals as goal

pub returns : goal.returns
returns c = rw (c.tell.ensures.number, c.tell.ensures.points, c.tell.ensures.frames) (c.read_kitti.ensures ∙ as_stored _ _ _)
