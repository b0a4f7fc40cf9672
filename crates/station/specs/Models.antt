-- What an end of the code stands for. Assumes nothing.
use Rattle.packet.specs.declared.checks.Check as check
use Rattle.primary.specs.Model as primary
use Rattle.secondary.specs.Station as secondary
use Rattle.station.specs.declared.end.End as code
use Rattle.station.specs.End.{End}

abbrev pub model : {K : Type 0} {g : check.Ghosts K} → code.End K g → End
model e = record { settings = e.settings; primary = primary.model e.primary; secondary = secondary.model e.secondary }
