-- What an iterator over the places of a capture has left.
use Rattle.std.specs.Prelude.{List}
use Rattle.capture.specs.declared.walk.Place.{Place}
use Rattle.capture.specs.declared.walk.Places.{Places}
use Rattle.capture.specs.Payloads.{places_from}

abbrev pub places_left : Places → List Place
places_left it = places_from it.cursor it.«data».now
