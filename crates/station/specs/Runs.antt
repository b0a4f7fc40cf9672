-- Lists of calls on one end, and the order of its deliveries. Assumes nothing.
use Rattle.std.specs.Prelude.{◌≡◌, ℕ, ◌≤◌, cond, List, [], ◌∷◌, ◌++◌, ◌==◌}
use Rattle.packet.specs.declared.number.Number.TheVariants.{Zero, One}
use Rattle.packet.specs.Format.{Parts, parts, reading}
use Rattle.packet.specs.Refusals.{Answer, refused, gave}
use Rattle.primary.specs.Table.{collected}
use Rattle.secondary.specs.Laws as deliveries
use Rattle.secondary.specs.Station.{take_answer, after_take, give_answer, after_give}
use Rattle.station.specs.End.{End, limit, submission, arrival, timeout, change, left_by, set_by, with_primary, with_secondary}

-- a message submitted, a burst that arrived, a timeout, a take into a place of so many bytes, a slip given back by line
-- number and buffer number, a collection, a settings frame
pub data Call : Type 0 where
  Submit : List ℕ → Call
  Arrive : List ℕ → Call
  Expire : Call
  Take : ℕ → Call
  Give : ℕ → ℕ → Call
  Collect : Call
  Set : List ℕ → Call

-- what a packet that arrived asks of the secondary station
abbrev pub asked_by : End → Answer Parts → List deliveries.Call
asked_by e (refused n) = []
asked_by e (gave (parts l p f)) =
    cond (l == 0x45) (deliveries.Enq (limit e) ∷ [])
    (cond (l == 0x30) (deliveries.Data (limit e) Zero f ∷ [])
    (cond (l == 0x31) (deliveries.Data (limit e) One f ∷ [])
    []))

-- by a kind with c check bytes
module _ (c : ℕ) (check : List ℕ → List ℕ) where
  abbrev pub after : Call → End → End
  after (Submit m) e = left_by (submission e m) e
  after (Arrive b) e = left_by (arrival c check e b) e
  after Expire e = left_by (timeout e) e
  after (Take n) e = with_secondary (after_take n e.secondary) e
  after (Give line buffer) e = with_secondary (after_give line buffer e.secondary) e
  after Collect e = with_primary (collected e.primary) e
  after (Set f) e = set_by (change e f) e

  abbrev pub after_all : List Call → End → End
  after_all [] e = e
  after_all (k ∷ ks) e = after_all ks (after k e)

  -- what the calls ask of the secondary station
  abbrev pub asked : Call → End → List deliveries.Call
  asked (Submit m) e = []
  asked (Arrive b) e = asked_by e (reading c check b)
  asked Expire e = []
  asked (Take n) e = deliveries.Take n ∷ []
  asked (Give line buffer) e = deliveries.Give line buffer ∷ []
  asked Collect e = []
  asked (Set f) e = []

  abbrev pub asked_all : List Call → End → List deliveries.Call
  asked_all [] e = []
  asked_all (k ∷ ks) e = asked k e ++ asked_all ks (after k e)

  -- deliveries leave in the order stored, none lost and none twice: after any calls, what was taken and given back, and
  -- then what is still held, is what was stored
  abbrev pub LeaveInOrder : End → Type 0
  LeaveInOrder e =
      (ks : List Call)
      → deliveries.given_all [] (asked_all ks e) e.secondary ++ (after_all ks e).secondary.held ≡ deliveries.stored_all (asked_all ks e) e.secondary

  -- a slip's buffer is out until it is given back: after any calls that do not give it back, take is refused with 22 and
  -- the slip is taken back
  abbrev pub StaysOut : ℕ → ℕ → End → Type 0
  StaysOut line buffer e =
      (ks : List Call) → deliveries.Spares line buffer (asked_all ks e)
      → ((size : ℕ) → 96 ≤ size → take_answer size (after_all ks e).secondary ≡ refused 22) × (give_answer line buffer (after_all ks e).secondary ≡ gave tt)
