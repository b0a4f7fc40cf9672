-- A secondary station and what each call makes of it. Assumes nothing.
use Rattle.std.specs.Prelude.{ℕ, ◌+◌, ◌-◌, ◌%◌, min, Bool, true, false, cond, not, ◌&&◌, ltb, List, [], ◌∷◌, ◌++◌, length, drop, Some, None, Ok, Err, Option, Result, ◌==◌, nat_eq, nat_lt}
use Rattle.packet.specs.Letters.{between}
use Rattle.packet.specs.declared.refusal.Refusal.{Refusal}
use Rattle.packet.specs.Refusals.{Answer, refused, gave, Rule, ◌⇒◌, judged, number_of}
use Rattle.packet.specs.declared.number.Number.{Number}
use Rattle.secondary.specs.declared.reply.Answer.{Answer as Reply}
use Rattle.secondary.specs.declared.reply.Answer.TheVariants.{Reset, Ack}
use Rattle.secondary.specs.declared.station.DeliverySlip.{DeliverySlip}
use Rattle.secondary.specs.declared.station.Secondary.{Secondary}
use Rattle.secondary.specs.Buffers.{messages, next_buffer, oldest_of}

abbrev pub Message : Type 0
Message = List ℕ

-- its line number, the number of its last ACK (none while the last answer is RESET), the messages held, oldest first, the number of the buffer that the next message goes
-- into, and whether the oldest message is out
pub record Station : Type 0 where
  pub line : ℕ
  pub last : Option Number
  pub held : List Message
  pub next : ℕ
  pub out : Bool

abbrev pub model : Secondary → Station
model s = record { line = s.line; last = s.last; held = messages s.deliveries; next = next_buffer s.deliveries; out = s.out }

abbrev pub opened : ℕ → Station
opened line = record { line = line; last = None; held = []; next = 0; out = false }

-- a refusal leaves what was there
abbrev pub or_kept : {X : Type 0} → Answer X → X → X
or_kept (refused n) x = x
or_kept (gave y) x = y

-- the buffers that are free under a receive limit, which is 8 at most
abbrev pub free_buffers : ℕ → Station → ℕ
free_buffers limit s = min limit 8 - length s.held

-- the number of the oldest message's buffer
abbrev pub oldest_buffer : Station → ℕ
oldest_buffer s = (s.next + 8 - length s.held) % 8

abbrev pub buffer_out : Station → Option ℕ
buffer_out s = cond s.out (Some (oldest_buffer s)) None

-- ENQ: the last answer again, an ACK with the credit of now
abbrev pub with_credit : Option Number → ℕ → Reply
with_credit None credit = Reset
with_credit (Some n) credit = Ack n credit

abbrev pub enq_answer : ℕ → Station → Option Reply
enq_answer limit s = cond (nat_lt 0 (free_buffers limit s)) (Some (with_credit s.last (free_buffers limit s))) None

-- DATA: stored while a buffer is free; the credit counts the buffer just used
abbrev pub message_rules : Message → List Rule
message_rules m = not (between 1 96 (length m)) ⇒ 16 ∷ []

abbrev pub stored : Number → Message → Station → Station
stored n m s = record { line = s.line; last = Some n; held = s.held ++ m ∷ []; next = (s.next + 1) % 8; out = s.out }

abbrev pub data_answer : ℕ → Number → Message → Station → Answer (Option Reply)
data_answer limit n m s = judged (message_rules m) (cond (nat_lt 0 (free_buffers limit s)) (Some (Ack n (free_buffers limit s - 1))) None)

abbrev pub after_data : ℕ → Number → Message → Station → Station
after_data limit n m s = or_kept (judged (message_rules m) (cond (nat_lt 0 (free_buffers limit s)) (stored n m s) s)) s

-- take, into a place of so many bytes: the length, the line number and the buffer number
abbrev pub take_rules : ℕ → Station → List Rule
take_rules size s = ltb size 96 ⇒ 21 ∷ s.out ⇒ 22 ∷ nat_eq (length s.held) 0 ⇒ 23 ∷ []

abbrev pub lent : Station → Station
lent s = record { line = s.line; last = s.last; held = s.held; next = s.next; out = true }

abbrev pub take_answer : ℕ → Station → Answer (ℕ × ℕ × ℕ)
take_answer size s = judged (take_rules size s) (length (oldest_of s.held), s.line, oldest_buffer s)

abbrev pub after_take : ℕ → Station → Station
after_take size s = or_kept (judged (take_rules size s) (lent s)) s

-- the place afterwards: the message, and the bytes beyond it as they were
abbrev pub copied : Message → List ℕ → List ℕ
copied m place = m ++ drop (length m) place

abbrev pub place_after : Station → List ℕ → List ℕ
place_after s place = or_kept (judged (take_rules (length place) s) (copied (oldest_of s.held) place)) place

-- the length and the slip's two numbers
abbrev pub taken : ℕ × DeliverySlip → ℕ × ℕ × ℕ
taken x = (x.0, x.1.line, x.1.buffer)

-- give back, by a line number and a buffer number
abbrev pub slip_out : ℕ → ℕ → Station → Bool
slip_out line buffer s = line == s.line && (s.out && buffer == oldest_buffer s)

abbrev pub give_rules : ℕ → ℕ → Station → List Rule
give_rules line buffer s = not (slip_out line buffer s) ⇒ 24 ∷ []

abbrev pub freed : Station → Station
freed s = record { line = s.line; last = s.last; held = drop 1 s.held; next = s.next; out = false }

abbrev pub give_answer : ℕ → ℕ → Station → Answer (Unit {0})
give_answer line buffer s = judged (give_rules line buffer s) tt

abbrev pub after_give : ℕ → ℕ → Station → Station
after_give line buffer s = or_kept (judged (give_rules line buffer s) (freed s)) s

-- a refused slip is handed back
abbrev pub slips_after : Station → DeliverySlip → List DeliverySlip
slips_after s slip = or_kept (judged (give_rules slip.line slip.buffer s) []) (slip ∷ [])

abbrev pub given : Result (Unit {0}) (Refusal × DeliverySlip) → Answer (Unit {0})
given (Ok x) = gave tt
given (Err e) = refused (number_of e.0)

abbrev pub handed_back : Result (Unit {0}) (Refusal × DeliverySlip) → List DeliverySlip
handed_back (Ok x) = []
handed_back (Err e) = e.1 ∷ []

-- a read-out: take, and then give back
abbrev pub reading_answer : ℕ → Station → Answer ℕ
reading_answer size s = judged (take_rules size s) (length (oldest_of s.held))

abbrev pub after_reading : ℕ → Station → Station
after_reading size s = or_kept (judged (take_rules size s) (freed s)) s
