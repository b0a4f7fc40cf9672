-- In which states a message is under way. Assumes nothing.
use Rattle.std.specs.Prelude.{ℕ}
use Rattle.primary.specs.declared.station.State.{State}
use Rattle.primary.specs.declared.station.State.TheVariants.{Off, Ready, Waiting, Asking}

-- how many messages are
abbrev pub under_way : State → ℕ
under_way Off = 0
under_way Ready = 0
under_way Waiting = 1
under_way Asking = 1
