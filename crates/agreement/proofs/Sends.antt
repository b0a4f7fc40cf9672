-- What an end sends can be sent, and its messages without outcome stay ones that can.
use Rattle.std.proofs.Common.{◌≡◌, ℕ, ◌+◌, ◌≤◌, Bool, true, false, cond, not, leb, List, [], ◌∷◌, length, Some, None, Option, refl, arith}
use mathlib.Core.Bool.{beq}
use Rattle.std.specs.Option.{option_map}
use Rattle.std.proofs.lemmas.Bool.{and_parts}
use Rattle.std.proofs.lemmas.Bool.Decides.{nat_tests}
use Rattle.packet.specs.Bytes.{data_byte}
use Rattle.packet.specs.Letters.{between, each_between}
use Rattle.packet.specs.declared.number.Number.{Number}
use Rattle.packet.specs.declared.number.Number.TheVariants.{Zero, One}
use Rattle.packet.proofs.Roundtrip.{Accepted}
use Rattle.primary.specs.Station.{Message, Phase, off, ready, waiting, asking, Station, Heard, submission, reset, ack, timeout, Did}
use Rattle.primary.specs.Table.{at, cell, arrives, rests, gives_up, asks, sends_again}
use Rattle.secondary.specs.declared.reply.Answer.TheVariants.{Ack}
use Rattle.secondary.specs.Station.{with_credit}
use Rattle.station.specs.End.{command_parts, answer_parts}
use Rattle.station.specs.Valid.{valid, all_valid}
use Rattle.station.proofs.Sendable.{Sendable, HeardValid, cell_valid}
use Rattle.agreement.proofs.Readings.{Fits}

-- sends what can be sent, and keeps messages that can
abbrev pub Fair : Did → Type 0
Fair d = Fits (option_map command_parts d.sent) × Sendable d.next.phase

enq_fits : Accepted 0x45 []
enq_fits = record { letter = refl; size = refl; bytes = refl }

data_fits : (n : Bool) (m : Message) → valid m ≡ true → Accepted (data_byte n) m
data_fits false m v = let p = and_parts (between 1 96 (length m)) (each_between 0x20 0x7e m) v in record { letter = refl; size = p.0; bytes = p.1 }
data_fits true m v = let p = and_parts (between 1 96 (length m)) (each_between 0x20 0x7e m) v in record { letter = refl; size = p.0; bytes = p.1 }

credit_fits : (k : ℕ) → k ≤ 8 → each_between 0x30 0x38 ((0x30 + k) ∷ []) ≡ true
credit_fits k h = grind (arith, nat_tests)

pub ack_fits : (n : Number) (k : ℕ) → k ≤ 8 → Fits (answer_parts (Some (Ack n k)))
ack_fits Zero k h = record { letter = refl; size = refl; bytes = credit_fits k h }
ack_fits One k h = record { letter = refl; size = refl; bytes = credit_fits k h }

pub response_fits : (last : Option Number) (k : ℕ) → k ≤ 8 → Fits (answer_parts (Some (with_credit last k)))
response_fits None k h = record { letter = refl; size = refl; bytes = refl }
response_fits (Some n) k h = ack_fits n k h

abbrev Sends : Did → Type 0
Sends d = Fits (option_map command_parts d.sent)

next_fits : (ms : List Message) (s : Station) → all_valid ms ≡ true → Sends (arrives ms s)
next_fits [] s v = tt
next_fits (m ∷ ms) s v = data_fits (not s.number) m (and_parts (valid m) (all_valid ms) v).0

again_fits : (c : Message) (ms : List Message) (s : Station) → all_valid (c ∷ ms) ≡ true → Sends (sends_again c ms s)
again_fits c ms s v = data_fits s.number c (and_parts (valid c) (all_valid ms) v).0

-- one of two ways
either : (b : Bool) (x y : Did) → Sends x → Sends y → Sends (cond b x y)
either true x y f g = f
either false x y f g = g

cell_sends : (M : ℕ) (s : Station) (ph : Phase) (h : Heard) → HeardValid h → Sendable ph → Sends (cell M s ph h)
cell_sends M s off (submission m) w v = tt
cell_sends M s off reset w v = tt
cell_sends M s off (ack n k) w v = tt
cell_sends M s off timeout w v = enq_fits
cell_sends M s ready (submission m) w v = data_fits (not s.number) m w
cell_sends M s ready reset w v = tt
cell_sends M s ready (ack n k) w v = tt
cell_sends M s ready timeout w v = tt
cell_sends M s (waiting c ms) (submission m) w v = tt
cell_sends M s (waiting c ms) reset w v = tt
cell_sends M s (waiting c ms) (ack n k) w v = either (beq n s.number) (arrives ms s) (rests s) (next_fits ms s (and_parts (valid c) (all_valid ms) v).1) tt
cell_sends M s (waiting c ms) timeout w v = either (leb M s.attempts) (gives_up ms s) (asks (asking c ms) s) enq_fits enq_fits
cell_sends M s (asking c ms) (submission m) w v = tt
cell_sends M s (asking c ms) reset w v = again_fits c ms s v
cell_sends M s (asking c ms) (ack n k) w v = either (beq n s.number) (arrives ms s) (sends_again c ms s) (next_fits ms s (and_parts (valid c) (all_valid ms) v).1) (again_fits c ms s v)
cell_sends M s (asking c ms) timeout w v = either (leb M s.attempts) (gives_up ms s) (asks (asking c ms) s) enq_fits enq_fits

pub cell_fair : (M : ℕ) (s : Station) (ph : Phase) (h : Heard) → HeardValid h → Sendable ph → Fair (cell M (at ph s) ph h)
cell_fair M s ph h w v = (cell_sends M (at ph s) ph h w v, cell_valid M (at ph s) ph h refl w v)
