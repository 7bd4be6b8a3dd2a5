-- What is asked with a form, a file and a rank: the file's checks, and the micrometres along the belt of the point of
-- that rank, if it is a whole-millimetre point.
use Rattle.std.specs.Prelude.{ℕ, List, ℤ, Option, None, Some, slice_get}
use Rattle.livox_form.specs.declared.Form.{Form}
use Rattle.livox_header.specs.Header.{checks}
use Rattle.livox_stored.specs.Stored.{Stored}
use Rattle.livox_file.specs.Livox.{stored}
use Rattle.placing.specs.Placing.{along, Asked}

abbrev pub along_if : Option Stored → Option ℤ
along_if (Some reading) = along reading
along_if None = None

abbrev pub by_rank : Form → List ℕ → ℕ → Asked
by_rank form bytes rank = record { checks = checks form bytes; micrometres = along_if (slice_get (stored form bytes) rank) }
