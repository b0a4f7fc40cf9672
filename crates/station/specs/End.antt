-- One end of a line: settings, a primary and a secondary station, and what each call makes of them. Assumes nothing.
use Rattle.std.specs.Prelude.{ℕ, ◌+◌, ◌-◌, Bool, true, false, cond, List, [], ◌∷◌, ◌++◌, length, drop, Some, None, Option, ◌==◌, slice_index}
use Rattle.std.specs.Option.{option_map}
use Rattle.packet.specs.declared.number.Number.{Number}
use Rattle.packet.specs.declared.number.Number.TheVariants.{Zero, One}
use Rattle.packet.specs.Bytes.{data_byte, ack_byte}
use Rattle.packet.specs.Format.{Parts, parts, packet, reading}
use Rattle.packet.specs.Numbers.{is_one}
use Rattle.packet.specs.Refusals.{Answer, refused, gave}
use Rattle.settings.specs.declared.values.Settings.{Settings}
use Rattle.settings.specs.Frame.{settings_of, change_of}
use Rattle.primary.specs.declared.event.Timer.{Timer}
use Rattle.primary.specs.declared.event.Timer.TheVariants as timer
use Rattle.primary.specs.Station as primary
use Rattle.primary.specs.Table.{step_of, opening}
use Rattle.secondary.specs.declared.reply.Answer.{Answer as Reply}
use Rattle.secondary.specs.declared.reply.Answer.TheVariants as reply
use Rattle.secondary.specs.Station as secondary

pub record End : Type 0 where
  pub settings : Settings
  pub primary : primary.Station
  pub secondary : secondary.Station

-- What a call does: the end after it, the letter and field of the packet sent, the timer started with its period, and
-- how many messages got each outcome.
pub record Done : Type 0 where
  pub next : End
  pub sent : Option (ℕ × List ℕ)
  pub timer : Option (Timer × ℕ)
  pub arrivals : ℕ
  pub give_ups : ℕ
  pub no_connections : ℕ

abbrev pub period : Settings → Timer → ℕ
period s timer.Enq = s.enq_period
period s timer.Data = s.data_period

abbrev pub timed : Settings → Timer → Timer × ℕ
timed s t = (t, period s t)

-- the letter and the field of a command
abbrev pub command_parts : primary.Command → ℕ × List ℕ
command_parts primary.ENQ = (0x45, [])
command_parts (primary.DATA n m) = (data_byte n, m)

-- the letter and the field of an answer
abbrev pub reply_parts : Reply → ℕ × List ℕ
reply_parts reply.Reset = (0x52, [])
reply_parts (reply.Ack n credit) = (ack_byte (is_one n), (0x30 + credit) ∷ [])

abbrev pub answer_parts : Option Reply → Option (ℕ × List ℕ)
answer_parts r = option_map reply_parts r

abbrev pub with_primary : primary.Station → End → End
with_primary p e = record { settings = e.settings; primary = p; secondary = e.secondary }

abbrev pub with_secondary : secondary.Station → End → End
with_secondary s e = record { settings = e.settings; primary = e.primary; secondary = s }

abbrev pub with_settings : Settings → End → End
with_settings s e = record { settings = s; primary = e.primary; secondary = e.secondary }

-- an answer's value seen otherwise
abbrev pub seen : {A B : Type 0} → (A → B) → Answer A → Answer B
seen f (refused n) = refused n
seen f (gave x) = gave (f x)

-- the primary station's part of a call
abbrev pub by_primary : End → primary.Did → Done
by_primary e d =
    record {
      next = with_primary d.next e;
      sent = option_map command_parts d.sent;
      timer = option_map (timed e.settings) d.timer;
      arrivals = d.arrivals;
      give_ups = d.give_ups;
      no_connections = d.no_connections;
    }

-- the secondary station's part: it starts no timer and gives no outcome
abbrev pub by_secondary : End → secondary.Station → Option Reply → Done
by_secondary e s r = record { next = with_secondary s e; sent = answer_parts r; timer = None; arrivals = 0; give_ups = 0; no_connections = 0 }

abbrev pub hears : End → primary.Heard → Answer Done
hears e h = seen (by_primary e) (step_of e.settings.attempt_limit e.primary h)

abbrev pub limit : End → ℕ
limit e = e.settings.receive_limit

abbrev pub enq_heard : End → Answer Done
enq_heard e = gave (by_secondary e e.secondary (secondary.enq_answer (limit e) e.secondary))

abbrev pub data_heard : End → Number → List ℕ → Answer Done
data_heard e n m = seen (by_secondary e (secondary.after_data (limit e) n m e.secondary)) (secondary.data_answer (limit e) n m e.secondary)

-- ENQ and DATA go to the secondary station, RESET and ACK to the primary
abbrev pub dispatched : End → Parts → Answer Done
dispatched e (parts l p f) =
    cond (l == 0x45) (enq_heard e)
    (cond (l == 0x30) (data_heard e Zero f)
    (cond (l == 0x31) (data_heard e One f)
    (cond (l == 0x41) (hears e (primary.ack false (slice_index f 0 - 0x30)))
    (cond (l == 0x42) (hears e (primary.ack true (slice_index f 0 - 0x30)))
    (hears e primary.reset)))))

abbrev pub after_reading : End → Answer Parts → Answer Done
after_reading e (refused n) = refused n
after_reading e (gave p) = dispatched e p

-- the calls
abbrev pub arrival : ℕ → (List ℕ → List ℕ) → End → List ℕ → Answer Done
arrival c check e b = after_reading e (reading c check b)

abbrev pub submission : End → List ℕ → Answer Done
submission e m = hears e (primary.submission m)

abbrev pub timeout : End → Answer Done
timeout e = hears e primary.timeout

abbrev pub opened : ℕ → Settings → Done
opened line s = by_primary (record { settings = s; primary = opening.next; secondary = secondary.opened line }) opening

abbrev pub opening_of : ℕ → List ℕ → Answer Done
opening_of line f = seen (opened line) (settings_of f)

-- while an answer is awaited the settings stand
abbrev pub awaiting : primary.Phase → Bool
awaiting primary.off = false
awaiting primary.ready = false
awaiting (primary.waiting m ms) = true
awaiting (primary.asking m ms) = true

abbrev pub change : End → List ℕ → Answer Settings
change e f = change_of f (awaiting e.primary.phase) (length e.secondary.held)

-- the end after a call: a refused one leaves it as it was
abbrev pub left_by : Answer Done → End → End
left_by (refused n) e = e
left_by (gave d) e = d.next

abbrev pub set_by : Answer Settings → End → End
set_by (refused n) e = e
set_by (gave s) e = with_settings s e

-- the bytes of the packet sent, none where nothing is sent
abbrev pub burst : (List ℕ → List ℕ) → Option (ℕ × List ℕ) → List ℕ
burst check None = []
burst check (Some p) = packet check p.0 p.1

-- the caller's place after a call: the packet, and the bytes beyond it as they were
abbrev pub written_over : List ℕ → List ℕ → List ℕ
written_over b place = b ++ drop (length b) place

abbrev pub placed_by : (List ℕ → List ℕ) → Answer Done → List ℕ → List ℕ
placed_by check (refused n) place = place
placed_by check (gave d) place = written_over (burst check d.sent) place
