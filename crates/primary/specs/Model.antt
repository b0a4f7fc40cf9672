-- What the code's station, event and step stand for. Assumes nothing.
use Rattle.std.specs.Prelude.{◌<◌, List, [], drop, Some, None, Option, slice_index_or}
use Rattle.std.specs.Option.{option_map}
use Rattle.primary.specs.declared.event.Event.{Event}
use Rattle.primary.specs.declared.event.Event.TheVariants as event
use Rattle.primary.specs.declared.event.Command.{Command as StationCommand}
use Rattle.primary.specs.declared.event.Command.TheVariants as sent
use Rattle.primary.specs.declared.event.Step.{Step}
use Rattle.primary.specs.declared.station.State.{State}
use Rattle.primary.specs.declared.station.State.TheVariants.{Off, Ready, Waiting, Asking}
use Rattle.primary.specs.declared.station.Primary.{Primary}
use Rattle.primary.specs.Buffers.{unsettled, uncollected}
use Rattle.packet.specs.Numbers.{is_one}
use Rattle.primary.specs.Station.{Message, Phase, off, ready, waiting, asking, Station, Heard, submission, reset, ack, timeout, Command, ENQ, DATA, Did, current_in}

-- the first of the messages without outcome is current
abbrev pub phase_of : State → List Message → Phase
phase_of Off ms = off
phase_of Ready ms = ready
phase_of Waiting ms = waiting (slice_index_or ms 0 []) (drop 1 ms)
phase_of Asking ms = asking (slice_index_or ms 0 []) (drop 1 ms)

abbrev pub state_of : Phase → State
state_of off = Off
state_of ready = Ready
state_of (waiting m ms) = Waiting
state_of (asking m ms) = Asking

abbrev pub model : Primary → Station
model p = record { phase = phase_of p.state (unsettled p.buffers); number = is_one p.number; attempts = p.attempts; credit = p.credit; outcomes = uncollected p.buffers }

-- a message is without outcome, so the station has a current one
abbrev pub HasCurrent : Primary → Type 0
HasCurrent p = p.buffers.done < p.buffers.used

abbrev pub heard : Event → Heard
heard (event.Submission m) = submission m.now
heard event.Reset = reset
heard (event.Ack n k) = ack (is_one n) k
heard event.Timeout = timeout

-- DATA carries the current message
abbrev pub command : Option StationCommand → Option Message → Option Command
command None m = None
command (Some sent.Enq) m = Some ENQ
command (Some (sent.Data n)) m = option_map (DATA (is_one n)) m

-- what was done by a step that left the station so
abbrev pub done_by : Station → Step → Did
done_by s e = record { next = s; sent = command e.sent (current_in s.phase); timer = e.timer; arrivals = e.tally.arrived; give_ups = e.tally.given_up; no_connections = e.tally.no_connection }

abbrev pub did : Primary → Step → Did
did p e = done_by (model p) e
