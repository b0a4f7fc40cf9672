-- The line of a script: its ends and its media, and what the calls make of them. Assumes nothing.
use Rattle.std.specs.Prelude.{ℕ, List, Some, None, Option}
use Rattle.std.specs.Option.{option_map}
use Rattle.packet.specs.Refusals.{Answer, refused, gave}
use Rattle.script_words.specs.declared.words.Kind.{Kind}
use Rattle.medium.specs.declared.offer.Offer.{Offer}
use Rattle.medium.specs.Offered.{whole_if}
use Rattle.named_media.specs.Media.{Carrier, Memory, goes_whole, offered, taken}
use Rattle.station.specs.End.{End}
use Rattle.agreement.specs.declared.sides.Side.{Side}
use Rattle.agreement.specs.declared.sides.Side.TheVariants.{West, East}
use Rattle.agreement.specs.Line.{Burst, Line, side_answer}
use Rattle.agreement.specs.Calls.{Call, Submit, Arrive, Expire, ReadOut, Collect, Set, Acted, acted, burst_of}
use Rattle.script.specs.Line as lines

-- a medium in one direction, and its memory
pub record Medium : Type 0 where
  pub carrier : Carrier
  pub memory : Memory

-- an open line: the ends of west and east, and the media from west and from east
pub record Open : Type 0 where
  pub west : End
  pub east : End
  pub eastward : Medium
  pub westward : Medium

-- what there is of a line: its kind and its ends, where it is open, and the media
pub record Joined : Type 0 where
  pub ends : Option (Kind × End × End)
  pub eastward : Medium
  pub westward : Medium

abbrev pub open_over : End → End → Medium → Medium → Open
open_over w e x y = record { west = w; east = e; eastward = x; westward = y }

-- its ends with the bursts under way
abbrev pub line_of : Open → Line
line_of o = record { west_end = o.west; east_end = o.east; eastward = o.eastward.carrier.bursts; westward = o.westward.carrier.bursts }

abbrev pub with_carrier : Carrier → Medium → Medium
with_carrier c w = record { carrier = c; memory = w.memory }

-- a medium that is offered what was sent, if anything was
abbrev pub passed : Option Burst → Medium → Medium
passed None w = w
passed (Some b) w = with_carrier (offered b w.carrier) w

-- what it answers
abbrev pub offer_of : Option Burst → Medium → Option Offer
offer_of b w = option_map (λ b. whole_if (goes_whole b w.carrier)) b

-- the medium toward a side, from which only an arrival takes
abbrev pub heard : Call → Medium → Medium
heard (Submit m) w = w
heard Arrive w = with_carrier (taken w.carrier) w
heard Expire w = w
heard (ReadOut n) w = w
heard Collect w = w
heard (Set f) w = w

-- the medium out of a side
abbrev pub medium_out : Side → Open → Medium
medium_out West o = o.eastward
medium_out East o = o.westward

-- by a kind with c check bytes
module _ (c : ℕ) (check : List ℕ → List ℕ) where
  abbrev pub did : Side → Call → Open → Acted
  did s k o = acted c check s k (line_of o)

  -- what the side sends
  abbrev pub sends : Side → Call → Open → Option Burst
  sends s k o = burst_of check (did s k o).sent

  -- what a call at a side leaves
  abbrev pub after_at : Side → Call → Open → Open
  after_at West k o = open_over (did West k o).next o.east (passed (sends West k o) o.eastward) (heard k o.westward)
  after_at East k o = open_over o.west (did East k o).next (heard k o.eastward) (passed (sends East k o) o.westward)

  -- at no side nothing changes
  abbrev pub after_call : Answer Side → Call → Open → Open
  after_call (refused n) k o = o
  after_call (gave s) k o = after_at s k o

  -- the state alone changes nothing
  abbrev pub after_asked : ℕ → lines.Call → Open → Open
  after_asked n (lines.submit m) o = after_call (side_answer n) (Submit m) o
  after_asked n lines.timeout o = after_call (side_answer n) Expire o
  after_asked n lines.arrive o = after_call (side_answer n) Arrive o
  after_asked n (lines.read size) o = after_call (side_answer n) (ReadOut size) o
  after_asked n lines.collect o = after_call (side_answer n) Collect o
  after_asked n (lines.settings f) o = after_call (side_answer n) (Set f) o
  after_asked n lines.state o = o
