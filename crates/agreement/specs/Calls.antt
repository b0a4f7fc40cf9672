-- The calls of a line, and what each makes of a side's end and of the bursts from it and toward it.
use Rattle.std.specs.Prelude.{◌≡◌, ℕ, cond, ◌||◌, List, [], ◌∷◌, length, drop, Some, None, Option, ◌==◌}
use Rattle.std.specs.Option.{option_map}
use Rattle.packet.specs.Format.{Parts, parts, packet, reading}
use Rattle.packet.specs.Refusals.{Answer, refused, gave, Rule, ◌⇒◌, judged}
use Rattle.primary.specs.Rules.{oldest}
use Rattle.primary.specs.Table as primary
use Rattle.secondary.specs.Buffers.{oldest_of}
use Rattle.secondary.specs.Station.{take_rules, after_reading}
use Rattle.medium.specs.declared.offer.Offer.{Offer}
use Rattle.medium.specs.Bursts.{first, some_letter}
use Rattle.medium.specs.Letters as letters
use Rattle.medium.specs.Offered.{Offered}
use Rattle.station.specs.End.{End, Done, submission, arrival, timeout, change, left_by, set_by, with_primary, with_secondary, seen}
use Rattle.station.specs.Reports.{Told, telling}
use Rattle.agreement.specs.declared.sides.Side.{Side}
use Rattle.agreement.specs.Line.{Burst, across, side_answer, Line, end_at, out_of}

-- a message submitted, an arrival, a timeout, a read-out into a place of so many bytes, a collection, a settings frame
pub data Call : Type 0 where
  Submit : List ℕ → Call
  Arrive : Call
  Expire : Call
  ReadOut : ℕ → Call
  Collect : Call
  Set : List ℕ → Call

-- what a call that is not refused returns: the letter that was heard, if one was, and what the end's stations did; the
-- message read out; the number of the outcome collected; or, of new settings, nothing
pub data Said : Type 0 where
  reported : Option ℕ → Told → Said
  read : List ℕ → Said
  collected : ℕ → Said
  adopted : Said

-- the end after a call and the bursts then toward it, the letter and field of the packet sent, and the answer
pub record Acted : Type 0 where
  pub next : End
  pub into : List Burst
  pub sent : Option (ℕ × List ℕ)
  pub answer : Answer Said

-- the rules come before the answer
abbrev pub unless : {A : Type 0} → List Rule → Answer A → Answer A
unless [] a = a
unless (r ∷ rs) a = cond r.0 (refused r.1) (unless rs a)

-- a timeout waits while a command from the side or an answer toward it is under way
abbrev pub timeout_rules : List Burst → List Burst → List Rule
timeout_rules out into = (some_letter letters.command out || some_letter letters.answer into) ⇒ 27 ∷ []

abbrev pub arrival_rules : List Burst → List Rule
arrival_rules into = (length into == 0) ⇒ 26 ∷ []

-- the letter of a burst that is read
abbrev pub letter_of : Answer Parts → Option ℕ
letter_of (refused n) = None
letter_of (gave (parts l p f)) = Some l

-- a read-out takes the oldest delivery, copies it and gives it back
abbrev pub message_read : ℕ → End → Answer (List ℕ)
message_read size e = judged (take_rules size e.secondary) (oldest_of e.secondary.held)

abbrev pub reads_out : ℕ → End → List Burst → Acted
reads_out size e into = record { next = with_secondary (after_reading size e.secondary) e; into = into; sent = None; answer = seen read (message_read size e) }

abbrev pub collects : End → List Burst → Acted
collects e into = record { next = with_primary (primary.collected e.primary) e; into = into; sent = None; answer = seen collected (oldest e.primary.outcomes) }

abbrev pub sets : List ℕ → End → List Burst → Acted
sets f e into = record { next = set_by (change e f) e; into = into; sent = None; answer = seen (λ s. adopted) (change e f) }

abbrev pub sent_by : Answer Done → Option (ℕ × List ℕ)
sent_by (refused n) = None
sent_by (gave d) = d.sent

-- by a kind with c check bytes
module _ (c : ℕ) (check : List ℕ → List ℕ) where
  -- what the stations did when they heard a letter, or without one
  abbrev pub done : Option ℕ → Answer Done → End → List Burst → Acted
  done letter a e into = record { next = left_by a e; into = into; sent = sent_by a; answer = seen (λ d. reported letter (telling check d)) a }

  -- an arrival takes the first burst toward the side, which is used up where its end refuses it
  abbrev pub arrives : End → List Burst → Acted
  arrives e into = done (letter_of (reading c check (first into))) (unless (arrival_rules into) (arrival c check e (first into))) e (drop 1 into)

  -- a call at an end, with the bursts under way from it and toward it
  abbrev pub act : Call → End → List Burst → List Burst → Acted
  act (Submit m) e out into = done None (submission e m) e into
  act Arrive e out into = arrives e into
  act Expire e out into = done None (unless (timeout_rules out into) (timeout e)) e into
  act (ReadOut size) e out into = reads_out size e into
  act Collect e out into = collects e into
  act (Set f) e out into = sets f e into

  abbrev pub acted : Side → Call → Line → Acted
  acted s k l = act k (end_at s l) (out_of s l) (out_of (across s) l)

-- the bytes of the packet sent, if one was
abbrev pub burst_of : (List ℕ → List ℕ) → Option (ℕ × List ℕ) → Option Burst
burst_of check sent = option_map (λ p. packet check p.0 p.1) sent

-- A medium that has the bursts of the first argument is offered a burst, if there is one, answers, and has the bursts of the
-- last argument.
abbrev pub Offers : List Burst → Option Burst → Option Offer → List Burst → Type 0
Offers before None None after = after ≡ before
Offers before None (Some o) after = ⊥
Offers before (Some b) None after = ⊥
Offers before (Some b) (Some o) after = Offered before b o after

-- A call k at the side s takes the line l to l': the answer, the side's end and the bursts toward it are those that the call
-- makes, what is sent is offered to the side's medium, and the other end is as it was.
pub record Turn (c : ℕ) (check : List ℕ → List ℕ) (s : Side) (k : Call) (l : Line) (a : Answer Said) (o : Option Offer) (l' : Line) : Type 0 where
  pub answer : a ≡ (acted c check s k l).answer
  pub near : end_at s l' ≡ (acted c check s k l).next
  pub far : end_at (across s) l' ≡ end_at (across s) l
  pub out : Offers (out_of s l) (burst_of check (acted c check s k l).sent) o (out_of s l')
  pub into : out_of (across s) l' ≡ (acted c check s k l).into

-- at no side: refused, and nothing changes
pub record NoTurn (n : ℕ) (l : Line) (a : Answer Said) (o : Option Offer) (l' : Line) : Type 0 where
  pub answer : a ≡ refused n
  pub offer : o ≡ None
  pub same : l' ≡ l

abbrev pub TurnAt : ℕ → (List ℕ → List ℕ) → Answer Side → Call → Line → Answer Said → Option Offer → Line → Type 0
TurnAt c check (refused n) k l a o l' = NoTurn n l a o l'
TurnAt c check (gave s) k l a o l' = Turn c check s k l a o l'

-- A call on the line l at the side of this number: its answer, its medium's answer, and the line after it. All but what the
-- medium makes of a packet is determined.
abbrev pub Step : ℕ → (List ℕ → List ℕ) → Line → ℕ → Call → Answer Said → Option Offer → Line → Type 0
Step c check l n k a o l' = TurnAt c check (side_answer n) k l a o l'
