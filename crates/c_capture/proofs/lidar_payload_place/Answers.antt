-- `c_capture::lidar_payload_place` meets its contract: each part is what its callee gives, in the usual reading.
use Rattle.capture.proofs.Handed.{handed_of_rank}
use Rattle.c_capture.specs.Capture.{tell_place}
use Rattle.c_capture.proofs.lidar_payload_place.Goals as goal

pub returns : goal.returns
unfolding tell_place
returns c = rw (c.number_of.ensures, c.usual.ensures, c.tell_payload.ensures, c.payload_place-place.ensures, handed_of_rank)
