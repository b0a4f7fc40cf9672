-- States and timers in print. Assumes nothing.
use Rattle.std.specs.Prelude.{ℕ, List, codes}
use Rattle.primary.specs.declared.event.Timer.{Timer}
use Rattle.primary.specs.declared.event.Timer.TheVariants as timer
use Rattle.primary.specs.declared.station.State.{State}
use Rattle.primary.specs.declared.station.State.TheVariants.{Off, Ready, Waiting, Asking}

abbrev pub state_text : State → List ℕ
state_text Off = codes "Off"
state_text Ready = codes "Ready"
state_text Waiting = codes "Waiting"
state_text Asking = codes "Asking"

abbrev pub timer_text : Timer → List ℕ
timer_text timer.Enq = codes "enq"
timer_text timer.Data = codes "data"
