-- The action table of the primary station. Assumes nothing.
use Rattle.std.specs.Prelude.{ℕ, ◌+◌, min, Bool, true, cond, not, List, [], ◌∷◌, ◌++◌, length, drop, replicate, Some, None, nat_le}
use Rattle.std.specs.Bool.{beq}
use Rattle.packet.specs.Refusals.{Answer, Rule, ◌⇒◌, judged}
use Rattle.primary.specs.declared.event.Timer.TheVariants as timer
use Rattle.primary.specs.Outcomes.{arrived, given_up, no_connection}
use Rattle.primary.specs.Rules.{message_rules, room_rules}
use Rattle.primary.specs.Station.{Message, Phase, off, ready, waiting, asking, Station, Heard, submission, reset, ack, timeout, ENQ, DATA, Did, unsettled_in, is_off}

-- the station with parts of it changed
abbrev pub moved : Phase → Bool → ℕ → Station → Station
moved ph n a s = record { phase = ph; number = n; attempts = a; credit = s.credit; outcomes = s.outcomes }

abbrev pub at : Phase → Station → Station
at ph s = moved ph s.number s.attempts s

abbrev pub credited : ℕ → Station → Station
credited k s = record { phase = s.phase; number = s.number; attempts = s.attempts; credit = k; outcomes = s.outcomes }

abbrev pub told : List ℕ → Station → Station
told os s = record { phase = s.phase; number = s.number; attempts = s.attempts; credit = s.credit; outcomes = s.outcomes ++ os }

abbrev pub once_more : ℕ → ℕ
once_more a = min (a + 1) 255

-- nothing is sent
abbrev pub rests : Station → Did
rests s = record { next = s; sent = None; timer = None; arrivals = 0; give_ups = 0; no_connections = 0 }

abbrev pub asks : Phase → Station → Did
asks ph s = record { next = moved ph s.number (once_more s.attempts) s; sent = Some ENQ; timer = Some timer.Enq; arrivals = 0; give_ups = 0; no_connections = 0 }

abbrev pub sends_again : Message → List Message → Station → Did
sends_again m ms s = record { next = moved (waiting m ms) s.number (once_more s.attempts) s; sent = Some (DATA s.number m); timer = Some timer.Data; arrivals = 0; give_ups = 0; no_connections = 0 }

-- m is the oldest waiting message, and n messages have just arrived
abbrev pub sends_next : Message → List Message → ℕ → Station → Did
sends_next m ms n s = record { next = moved (waiting m ms) (not s.number) 0 s; sent = Some (DATA (not s.number) m); timer = Some timer.Data; arrivals = n; give_ups = 0; no_connections = 0 }

-- the current message arrived, and ms wait behind it
abbrev pub arrives : List Message → Station → Did
arrives [] s = record { next = moved ready s.number 0 (told (arrived ∷ []) s); sent = None; timer = None; arrivals = 1; give_ups = 0; no_connections = 0 }
arrives (m ∷ ms) s = sends_next m ms 1 (told (arrived ∷ []) s)

-- the current message is given up, and ms wait behind it
abbrev pub gives_up : List Message → Station → Did
gives_up ms s = record { next = moved off s.number 1 (told (given_up ∷ replicate (length ms) no_connection) s); sent = Some ENQ; timer = Some timer.Enq; arrivals = 0; give_ups = 1; no_connections = length ms }

-- no answer came, with attempt limit M
abbrev pub expires : ℕ → Message → List Message → Station → Did
expires M c ms s = cond (nat_le M s.attempts) (gives_up ms s) (asks (asking c ms) s)

-- m waits behind the messages under way
abbrev pub queued : Message → Phase → Phase
queued m off = off
queued m ready = ready
queued m (waiting c ms) = waiting c (ms ++ m ∷ [])
queued m (asking c ms) = asking c (ms ++ m ∷ [])

-- The table: what the station s does in its phase at what it hears. A submission while off is refused (below).
abbrev pub cell : ℕ → Station → Phase → Heard → Did
cell M s off (submission m) = rests s
cell M s off reset = rests (at ready s)
cell M s off (ack n k) = rests (moved ready n s.attempts s)
cell M s off timeout = asks off s
cell M s ready (submission m) = sends_next m [] 0 s
cell M s ready reset = rests s
cell M s ready (ack n k) = rests s
cell M s ready timeout = rests s
cell M s (waiting c ms) (submission m) = rests (at (queued m (waiting c ms)) s)
cell M s (waiting c ms) reset = rests s
cell M s (waiting c ms) (ack n k) = cond (beq n s.number) (arrives ms s) (rests s)
cell M s (waiting c ms) timeout = expires M c ms s
cell M s (asking c ms) (submission m) = rests (at (queued m (asking c ms)) s)
cell M s (asking c ms) reset = sends_again c ms s
cell M s (asking c ms) (ack n k) = cond (beq n s.number) (arrives ms s) (sends_again c ms s)
cell M s (asking c ms) timeout = expires M c ms s

-- every ACK sets the credit last heard, before the cell's action
abbrev pub hears : Heard → Station → Station
hears (submission m) s = s
hears reset s = s
hears (ack n k) s = credited k s
hears timeout s = s

-- only submissions are refused
abbrev pub rules : Heard → Station → List Rule
rules (submission m) s = message_rules m ++ (is_off s.phase ⇒ 18 ∷ room_rules (length (unsettled_in s.phase) + length s.outcomes))
rules reset s = []
rules (ack n k) s = []
rules timeout s = []

abbrev pub step_of : ℕ → Station → Heard → Answer Did
step_of M s h = judged (rules h s) (cell M (hears h s) s.phase h)

-- the oldest outcome is taken away
abbrev pub collected : Station → Station
collected s = record { phase = s.phase; number = s.number; attempts = s.attempts; credit = s.credit; outcomes = drop 1 s.outcomes }

-- opening: ENQ is sent with its timer
abbrev pub opening : Did
opening = record { next = record { phase = off; number = true; attempts = 1; credit = 9; outcomes = [] }; sent = Some ENQ; timer = Some timer.Enq; arrivals = 0; give_ups = 0; no_connections = 0 }
