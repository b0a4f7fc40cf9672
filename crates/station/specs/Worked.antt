-- Worked runs of one end on line 0, by the sum kind. Assumes nothing.
use Rattle.std.specs.Prelude.{◌≡◌, ℕ, List, [], ◌∷◌}
use Rattle.packet.specs.Checks.{sum_check}
use Rattle.packet.specs.Refusals.{Answer, refused, gave}
use Rattle.packet.specs.Worked as packets
use Rattle.primary.specs.Outcomes.{arrived, given_up}
use Rattle.primary.specs.Station.{Phase, off, ready}
use Rattle.secondary.specs.Worked as answers
use Rattle.settings.specs.Worked as frames
use Rattle.station.specs.End.{End, Done, opened, submission, arrival, timeout, burst}
use Rattle.station.specs.Runs.{Call, Submit, Arrive, Expire, Take, Give, Collect, Set, after}

-- "OK"
abbrev OK : List ℕ
OK = 0x4f ∷ 0x4b ∷ []

abbrev ENQ : List ℕ
ENQ = 0x02 ∷ 0x45 ∷ 0x03 ∷ 0xc8 ∷ []

abbrev DATA_0_OK : List ℕ
DATA_0_OK = 0x02 ∷ 0x30 ∷ 0x4f ∷ 0x4b ∷ 0x03 ∷ 0xcd ∷ []

abbrev RESET : List ℕ
RESET = 0x02 ∷ 0x52 ∷ 0x03 ∷ 0xd5 ∷ []

-- with credit 7
abbrev ACK_0 : List ℕ
ACK_0 = 0x02 ∷ 0x41 ∷ 0x37 ∷ 0x03 ∷ 0xfb ∷ []

abbrev ACK_1 : List ℕ
ACK_1 = 0x02 ∷ 0x42 ∷ 0x37 ∷ 0x03 ∷ 0xfc ∷ []

-- the burst that a call sends, empty where it sends none
abbrev sent_by : Answer Done → List ℕ
sent_by (refused n) = []
sent_by (gave d) = burst sum_check d.sent

abbrev sent : Call → End → List ℕ
sent (Submit m) e = sent_by (submission e m)
sent (Arrive b) e = sent_by (arrival 1 sum_check e b)
sent Expire e = sent_by (timeout e)
sent (Take n) e = []
sent (Give line buffer) e = []
sent Collect e = []
sent (Set f) e = []

-- a burst before others; none where nothing was sent
abbrev noted : List ℕ → List (List ℕ) → List (List ℕ)
noted [] bs = bs
noted (b ∷ rest) bs = (b ∷ rest) ∷ bs

-- the bursts that a list of calls sends, and after it the outcomes not collected and the phase
abbrev run : List Call → End → List (List ℕ) × List ℕ × Phase
run [] e = ([], e.primary.outcomes, e.primary.phase)
run (k ∷ ks) e = let r = run ks (after 1 sum_check k e) in (noted (sent k e) r.0, r.1, r.2)

-- an end with attempt limit M and receive limit R
abbrev fresh : ℕ → ℕ → End
fresh M R = (opened 0 (record { enq_period = 200; data_period = 300; attempt_limit = M; receive_limit = R })).next

abbrev pub Worked : Type 0
Worked =
    packets.Worked × frames.Worked × answers.Worked
    -- M = 2: RESET, "OK" submitted, timeout, ACK_1, timeout
    × (run (Arrive RESET ∷ Submit OK ∷ Expire ∷ Arrive ACK_1 ∷ Expire ∷ []) (fresh 2 8) ≡ (DATA_0_OK ∷ ENQ ∷ DATA_0_OK ∷ ENQ ∷ [], given_up ∷ [], off))
    -- M = 2: RESET, "OK" submitted, timeout, ACK_0
    × (run (Arrive RESET ∷ Submit OK ∷ Expire ∷ Arrive ACK_0 ∷ []) (fresh 2 8) ≡ (DATA_0_OK ∷ ENQ ∷ [], arrived ∷ [], ready))
    -- R = 1 and one delivery held: ENQ gets no answer
    × (run (Arrive DATA_0_OK ∷ Arrive ENQ ∷ []) (fresh 2 1) ≡ ((0x02 ∷ 0x41 ∷ 0x30 ∷ 0x03 ∷ 0xf4 ∷ []) ∷ [], [], off))
