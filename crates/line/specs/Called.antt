-- What a call on a line did: the contract of all six calls.
use Rattle.std.specs.Prelude.{◌≡◌, ℕ, List, [], None, Option}
use Rattle.packet.specs.declared.checks.Check as check
use Rattle.packet.specs.Refusals.{Answer, refused, gave}
use Rattle.medium.specs.declared.Medium as medium
use Rattle.medium.specs.declared.offer.Offer.{Offer}
use Rattle.station.specs.declared.end.End as code
use Rattle.station.specs.End.{burst, written_over}
use Rattle.station.specs.Models.{model}
use Rattle.agreement.specs.declared.sides.Side.{Side}
use Rattle.agreement.specs.Line.{Burst, side_answer, Line, end_at}
use Rattle.agreement.specs.Calls.{Call, Submit, Arrive, Expire, ReadOut, Collect, Set, Said, reported, read, collected, adopted, Acted, message_read, act, acted, burst_of, Offers, Step}
use Rattle.agreement.specs.Theorem.{Keeps}
use Rattle.line.specs.declared.opened.Line as lines
use Rattle.line.specs.Models.{line_of}
use Rattle.line.specs.Media.{OfferedOnce, Incoming, Exactly}

-- the message that a call read out, no bytes where it read none
abbrev pub message_in : Answer Said → List ℕ
message_in (refused n) = []
message_in (gave (reported letter t)) = []
message_in (gave (read m)) = m
message_in (gave (collected o)) = []
message_in (gave adopted) = []

-- what a call writes to the front of the caller's place: the packet that it sent, or the message that it read out
abbrev pub front : (List ℕ → List ℕ) → Call → Acted → List ℕ
front check (Submit m) x = burst check x.sent
front check Arrive x = burst check x.sent
front check Expire x = burst check x.sent
front check (ReadOut n) x = message_in x.answer
front check Collect x = []
front check (Set f) x = []

-- The end does what x says: its answer, its state, its packet offered once, and a refusal leaves the end as it was.
pub record Does {K O : Type 0} (k : check.Ghosts K) (o : medium.Ghosts O) (x : Acted) (bytes : List ℕ) (a : Answer Said) (offer : Option Offer)
    (e e' : code.End K k) (out out' : O) (place place' : List ℕ) : Type 0 where
  pub answer : a ≡ x.answer
  pub next : model e' ≡ x.next
  pub unchanged : (n : ℕ) → a ≡ refused n → e' ≡ e
  pub placed : place' ≡ written_over bytes place
  pub offered : Offers (o.bursts out) (burst_of k.meaning x.sent) offer (o.bursts out')
  pub once : OfferedOnce o (burst_of k.meaning x.sent) offer out out'

-- The same of a call at one side, with the medium toward it.
pub record Performed {K O I : Type 0} (k : check.Ghosts K) (o : medium.Ghosts O) (i : medium.Ghosts I) (call : Call) (a : Answer Said) (offer : Option Offer)
    (e e' : code.End K k) (out out' : O) (into into' : I) (place place' : List ℕ) : Type 0 where
  pub does : let x = act k.LEN k.meaning call (model e) (o.bursts out) (i.bursts into) in Does k o x (front k.meaning call x) a offer e e' out out' place place'
  pub left : i.bursts into' ≡ (act k.LEN k.meaning call (model e) (o.bursts out) (i.bursts into)).into
  pub taken : Incoming i call into into'

-- what a call at the side of a number sends, and what it writes to the front of the caller's place: nothing at no side
abbrev pub sent_at : ℕ → (List ℕ → List ℕ) → Answer Side → Call → Line → Option Burst
sent_at c check (refused n) k l = None
sent_at c check (gave s) k l = burst_of check (acted c check s k l).sent

abbrev pub front_at : ℕ → (List ℕ → List ℕ) → Answer Side → Call → Line → List ℕ
front_at c check (refused n) k l = []
front_at c check (gave s) k l = front check k (acted c check s k l)

-- the message that a read-out at the side of a number gives
abbrev pub message_at : Answer Side → ℕ → Line → Answer (List ℕ)
message_at (refused n) size l = refused n
message_at (gave s) size l = message_read size (end_at s l)

-- a line, the media that a call is lent, and the caller's place, before or after the call
pub record Stand (K E W : Type 0) (k : check.Ghosts K) : Type 0 where
  pub line : lines.Line K k
  pub eastward : E
  pub westward : W
  pub place : List ℕ

abbrev pub stand : {K E W : Type 0} {k : check.Ghosts K} → lines.Line K k → E → W → List ℕ → Stand K E W k
stand l x y p = record { line = l; eastward = x; westward = y; place = p }

-- the line with the bursts under way on both media
abbrev pub seen_over : {K E W : Type 0} {k : check.Ghosts K} → medium.Ghosts E → medium.Ghosts W → Stand K E W k → Line
seen_over e w s = line_of s.line (e.bursts s.eastward) (w.bursts s.westward)

-- A call at the side of a number, with its answer and its medium's answer, between two stands.
pub record Called {K E W : Type 0} (k : check.Ghosts K) (e : medium.Ghosts E) (w : medium.Ghosts W) (side : ℕ) (call : Call) (a : Answer Said) (offer : Option Offer) (old new : Stand K E W k) : Type 0 where
  -- both ends, the bursts on both media and the answers
  pub step : Step k.LEN k.meaning (seen_over e w old) side call a offer (seen_over e w new)
  -- the caller's place, whose other bytes are kept
  pub placed : new.place ≡ written_over (front_at k.LEN k.meaning (side_answer side) call (seen_over e w old)) old.place
  -- a refused call leaves the line as it was; and its media too, by what follows, but for a burst that was used up
  pub unchanged : (n : ℕ) → a ≡ refused n → new.line ≡ old.line
  -- each medium is exactly as one offer or one take leaves it, or as it was
  pub exact : Exactly e w (side_answer side) call (sent_at k.LEN k.meaning (side_answer side) call (seen_over e w old)) offer old.eastward new.eastward old.westward new.westward
  -- the agreement of both ends, after this call as before it
  pub keeps : Keeps k.LEN k.meaning side call a offer (seen_over e w old) (seen_over e w new)
