-- What a report of the code stands for. Assumes nothing.
use Rattle.std.specs.Prelude.{ℕ, List, length, Option}
use Rattle.std.specs.Option.{option_map}
use Rattle.packet.specs.Bytes.{byte_of}
use Rattle.packet.specs.Format.{packet}
use Rattle.primary.specs.declared.event.Timer.{Timer}
use Rattle.station.specs.declared.report.Report.{Report}
use Rattle.station.specs.declared.report.Sent.{Sent}
use Rattle.station.specs.End.{Done}

-- the letter of the packet sent with its length, the timer with its period, and how many messages got each outcome
pub record Told : Type 0 where
  pub sent : Option (ℕ × ℕ)
  pub timer : Option (Timer × ℕ)
  pub arrivals : ℕ
  pub give_ups : ℕ
  pub no_connections : ℕ

abbrev pub packet_sent : Sent → ℕ × ℕ
packet_sent s = (byte_of s.letter, s.length)

abbrev pub told : Report → Told
told r = record { sent = option_map packet_sent r.sent; timer = r.timer; arrivals = r.tally.arrived; give_ups = r.tally.given_up; no_connections = r.tally.no_connection }

abbrev pub telling : (List ℕ → List ℕ) → Done → Told
telling check d = record { sent = option_map (λ p. (p.0, length (packet check p.0 p.1))) d.sent; timer = d.timer; arrivals = d.arrivals; give_ups = d.give_ups; no_connections = d.no_connections }
