-- `c_capture::lidar_next_payload` meets its contract: it tells the step in the usual reading.
use Rattle.c_capture.specs.Capture.{tell_next}
use Rattle.c_capture.proofs.lidar_next_payload.Goals as goal

pub returns : goal.returns
unfolding tell_next
returns c = rw (c.step_from-step.ensures, c.usual.ensures) at c.tell_step.ensures
