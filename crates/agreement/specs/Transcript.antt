-- What the calls and their answers alone tell of a side: its accepted messages, what it read out, its last answer and its
-- settings.
use Rattle.std.specs.Prelude.{ℕ, zero, suc, ◌+◌, Bool, true, false, cond, List, [], ◌∷◌, ◌++◌, length, Some, None, Option, ◌==◌}
use Rattle.packet.specs.Refusals.{Answer, refused, gave}
use Rattle.primary.specs.declared.outcome.Outcome.{Outcome}
use Rattle.primary.specs.declared.outcome.Outcome.TheVariants.{Arrived, GivenUp, NoConnection}
use Rattle.settings.specs.declared.values.Settings.{Settings}
use Rattle.settings.specs.Frame.{settings_in}
use Rattle.medium.specs.declared.offer.Offer.{Offer}
use Rattle.station.specs.Reports.{Told}
use Rattle.agreement.specs.declared.sides.Side.{Side}
use Rattle.agreement.specs.declared.sides.Side.TheVariants.{West, East}
use Rattle.agreement.specs.Line.{across, side_number}
use Rattle.agreement.specs.Calls.{Call, Submit, Arrive, Expire, ReadOut, Collect, Set, Said, reported, read, collected, adopted}

-- The settings frames of west and east at the opening and what their media answered, then each call with its side's number,
-- its answer and its medium's answer, newest last.
pub data Transcript : Type 0 where
  opened : List ℕ → List ℕ → Option Offer → Option Offer → Transcript
  then : Transcript → ℕ → Call → Answer Said → Option Offer → Transcript

-- What became of an accepted message: nothing yet, or an outcome, beside the far side's last answer when it got it. An
-- answer is an ACK's number, 0 being false and 1 true, or none for RESET.
pub data Fate : Type 0 where
  unsettled : Fate
  got : Outcome → Option Bool → Fate

-- An accepted message: its bytes, its number once DATA was sent, its fate, how many had no outcome when it was accepted, the
-- attempt limit then set, and how many timeouts were taken since.
pub record Accepted : Type 0 where
  pub message : List ℕ
  pub number : Option Bool
  pub fate : Fate
  pub behind : ℕ
  pub limit : ℕ
  pub timeouts : ℕ

-- The accepted messages, oldest first: those with an outcome, then those without.
pub record Ledger : Type 0 where
  pub closed : List Accepted
  pub waits : List Accepted

abbrev pub accepted : Ledger → List Accepted
accepted g = g.closed ++ g.waits

abbrev pub newcomer : List ℕ → ℕ → ℕ → Accepted
newcomer m behind limit = record { message = m; number = None; fate = unsettled; behind = behind; limit = limit; timeouts = 0 }

-- the message m is accepted under the attempt limit M
abbrev pub accept : List ℕ → ℕ → Ledger → Ledger
accept m M g = record { closed = g.closed; waits = g.waits ++ newcomer m (length g.waits) M ∷ [] }

abbrev pub later : Accepted → Accepted
later e = record { message = e.message; number = e.number; fate = e.fate; behind = e.behind; limit = e.limit; timeouts = e.timeouts + 1 }

abbrev pub all_later : List Accepted → List Accepted
all_later [] = []
all_later (e ∷ es) = later e ∷ all_later es

-- a timeout is taken
abbrev pub timed : Ledger → Ledger
timed g = record { closed = g.closed; waits = all_later g.waits }

abbrev pub ended : Outcome → Option Bool → Accepted → Accepted
ended o l e = record { message = e.message; number = e.number; fate = got o l; behind = e.behind; limit = e.limit; timeouts = e.timeouts }

-- the oldest message without an outcome gets this one, the far side's last answer being l
abbrev pub settle : Outcome → Option Bool → List Accepted → List Accepted → Ledger
settle o l cs [] = record { closed = cs; waits = [] }
settle o l cs (e ∷ es) = record { closed = cs ++ ended o l e ∷ []; waits = es }

-- the n oldest do
abbrev pub settles : Outcome → Option Bool → ℕ → Ledger → Ledger
settles o l zero g = g
settles o l (suc n) g = settles o l n (settle o l g.closed g.waits)

abbrev pub with_number : Bool → Accepted → Accepted
with_number n e = record { message = e.message; number = Some n; fate = e.fate; behind = e.behind; limit = e.limit; timeouts = e.timeouts }

-- DATA told as sent is that of the oldest message then without outcome
abbrev pub numbered : Bool → List Accepted → List Accepted
numbered n [] = []
numbered n (e ∷ es) = with_number n e ∷ es

abbrev pub data_sent : Bool → Ledger → Ledger
data_sent n g = record { closed = g.closed; waits = numbered n g.waits }

-- a packet told as sent, by its letter and length
abbrev pub sent_told : Option (ℕ × ℕ) → Ledger → Ledger
sent_told None g = g
sent_told (Some p) g = cond (p.0 == 0x30) (data_sent false g) (cond (p.0 == 0x31) (data_sent true g) g)

-- what a call that is not refused asks
abbrev pub asked : Call → ℕ → Ledger → Ledger
asked (Submit m) M g = accept m M g
asked Arrive M g = g
asked Expire M g = timed g
asked (ReadOut size) M g = g
asked Collect M g = g
asked (Set f) M g = g

-- the outcomes told go to the oldest messages without one, given up before no connection
abbrev pub outcomes_told : Told → Option Bool → Ledger → Ledger
outcomes_told t l g = settles NoConnection l t.no_connections (settles GivenUp l t.give_ups (settles Arrived l t.arrivals g))

-- the ledger after a call and its answer, the far side's last answer being l and the attempt limit M
abbrev pub ledger_after : Call → Answer Said → Option Bool → ℕ → Ledger → Ledger
ledger_after k (refused n) l M g = g
ledger_after k (gave (reported letter t)) l M g = sent_told t.sent (outcomes_told t l (asked k M g))
ledger_after k (gave (read m)) l M g = g
ledger_after k (gave (collected o)) l M g = g
ledger_after k (gave adopted) l M g = g

-- how many messages a call told an outcome of
abbrev pub outcomes_in : Answer Said → ℕ
outcomes_in (refused n) = 0
outcomes_in (gave (reported letter t)) = t.arrivals + (t.give_ups + t.no_connections)
outcomes_in (gave (read m)) = 0
outcomes_in (gave (collected o)) = 0
outcomes_in (gave adopted) = 0

abbrev pub frame_after : Call → Settings → Settings
frame_after (Submit m) s = s
frame_after Arrive s = s
frame_after Expire s = s
frame_after (ReadOut size) s = s
frame_after Collect s = s
frame_after (Set f) s = settings_in f

abbrev pub settings_after : Call → Answer Said → Settings → Settings
settings_after k (refused n) s = s
settings_after k (gave x) s = frame_after k s

-- the letter of an answer that was sent
abbrev pub answer_told : Option (ℕ × ℕ) → Option Bool → Option Bool
answer_told None l = l
answer_told (Some p) l = cond (p.0 == 0x41) (Some false) (cond (p.0 == 0x42) (Some true) (cond (p.0 == 0x52) None l))

abbrev pub last_after : Answer Said → Option Bool → Option Bool
last_after (refused n) l = l
last_after (gave (reported letter t)) l = answer_told t.sent l
last_after (gave (read m)) l = l
last_after (gave (collected o)) l = l
last_after (gave adopted) l = l

abbrev pub read_after : Answer Said → List (List ℕ) → List (List ℕ)
read_after (refused n) ms = ms
read_after (gave (reported letter t)) ms = ms
read_after (gave (read m)) ms = ms ++ m ∷ []
read_after (gave (collected o)) ms = ms
read_after (gave adopted) ms = ms

abbrev pub frame_of : Side → List ℕ → List ℕ → List ℕ
frame_of West w e = w
frame_of East w e = e

-- the settings of a side as they stand now
abbrev pub settings_now : Side → Transcript → Settings
settings_now s (opened w e o p) = settings_in (frame_of s w e)
settings_now s (then h n k a o) = cond (n == side_number s) (settings_after k a (settings_now s h)) (settings_now s h)

-- the last answer that the side told as sent, RESET before any
abbrev pub last_answer : Side → Transcript → Option Bool
last_answer s (opened w e o p) = None
last_answer s (then h n k a o) = cond (n == side_number s) (last_after a (last_answer s h)) (last_answer s h)

-- the messages that the side's read-outs gave
abbrev pub read_by : Side → Transcript → List (List ℕ)
read_by s (opened w e o p) = []
read_by s (then h n k a o) = cond (n == side_number s) (read_after a (read_by s h)) (read_by s h)

-- how many outcomes the side told
abbrev pub outcome_count : Side → Transcript → ℕ
outcome_count s (opened w e o p) = 0
outcome_count s (then h n k a o) = cond (n == side_number s) (outcome_count s h + outcomes_in a) (outcome_count s h)

-- the side's accepted messages
abbrev pub ledger : Side → Transcript → Ledger
ledger s (opened w e o p) = record { closed = []; waits = [] }
ledger s (then h n k a o) =
    cond (n == side_number s) (ledger_after k a (last_answer (across s) h) (settings_now s h).attempt_limit (ledger s h)) (ledger s h)
