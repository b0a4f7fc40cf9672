-- A burst that an end hears, and the packet that it sends.
use Rattle.std.specs.Prelude.{ℕ, cond, List, [], take, Some, None, Option, slice_index}
use Rattle.std.specs.Option.{option_map}
use Rattle.packet.specs.declared.checks.Check as check
use Rattle.packet.specs.Format.{reading}
use Rattle.packet.specs.Letters.{known}
use Rattle.station.specs.declared.end.End.{End}
use Rattle.station.specs.declared.report.Sent.{Sent}
use Rattle.station.specs.End.{arrival, burst}
use Rattle.station.specs.Models.{model}
use Rattle.agreement.specs.Line.{Burst}
use Rattle.agreement.specs.Calls.{Acted, letter_of, done}

-- what a burst makes an end do
abbrev pub hears : {K : Type 0} {k : check.Ghosts K} → Burst → End K k → Acted
hears {k = k} b e = done k.LEN k.meaning (letter_of (reading k.LEN k.meaning b)) (arrival k.LEN k.meaning (model e) b) (model e) []

abbrev pub packet_of : (List ℕ → List ℕ) → Acted → List ℕ
packet_of check x = burst check x.sent

-- the second byte, where it is a letter
abbrev pub letter_at : Burst → Option ℕ
letter_at b = cond (known (slice_index b 1)) (Some (slice_index b 1)) None

-- the packet that a report tells of, at the front of the place
abbrev pub written : Option Sent → List ℕ → Option Burst
written sent place = option_map (λ s. take s.length place) sent
