-- `c_capture::lidar_payload_place_as` meets its contract: each part is what its callee gives, in the reading that the bool names.
use Rattle.capture.proofs.Handed.{handed_of_rank}
use Rattle.c_capture.specs.Capture.{tell_place}
use Rattle.c_capture.proofs.lidar_payload_place_as.Goals as goal

pub returns : goal.returns
unfolding tell_place
returns c = rw (c.number_of.ensures, c.tell_payload.ensures, c.payload_place_as-place.ensures, c.reading_of-reading.ensures, handed_of_rank)
