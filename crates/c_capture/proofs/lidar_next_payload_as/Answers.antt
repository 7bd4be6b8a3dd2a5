-- `c_capture::lidar_next_payload_as` meets its contract: it tells the step in the reading that the bool names.
use Rattle.c_capture.specs.Capture.{tell_next}
use Rattle.c_capture.proofs.lidar_next_payload_as.Goals as goal

pub returns : goal.returns
unfolding tell_next
returns c = rw (c.step_from-step.ensures, c.reading_of.ensures) at c.tell_step.ensures
