-- `c_capture::tell_payload` meets its contract: the default is told for none (`by_default`).
use Rattle.std.proofs.Common.{ap}
use Rattle.capture.proofs.Handed.{by_default}
use Rattle.c_capture.specs.Capture.{tell_payload}
use Rattle.c_capture.proofs.tell_payload.Goals as goal

pub returns : goal.returns
returns c = rw c.tell.ensures (ap tell_payload (by_default _ _ c.unwrap_or_default-place.ensures))
