-- Steps as data. Assumes nothing.
use Rattle.std.specs.Prelude.{Some}
use Rattle.packet.specs.declared.number.Number.{Number}
use Rattle.primary.specs.declared.event.Command.TheVariants as commands
use Rattle.primary.specs.declared.event.Timer.TheVariants as timers
use Rattle.primary.specs.declared.event.Step.{Step}
use Rattle.primary.specs.declared.outcome.Tally.{Tally}

abbrev pub no_outcome : Tally
no_outcome = record { arrived = 0; given_up = 0; no_connection = 0 }

abbrev pub asks_again : Step
asks_again = record { sent = Some commands.Enq; timer = Some timers.Enq; tally = no_outcome }

abbrev pub carries : Number → Step
carries n = record { sent = Some (commands.Data n); timer = Some timers.Data; tally = no_outcome }
