-- What holds of a station over any calls. Assumes nothing.
use Rattle.std.specs.Prelude.{◌≡◌, ℕ, ◌≤◌, List, [], ◌∷◌, ◌++◌, ◌≢◌, Some, None, Option}
use Rattle.packet.specs.Refusals.{Answer, refused, gave, judged}
use Rattle.packet.specs.declared.number.Number.{Number}
use Rattle.secondary.specs.declared.reply.Answer.{Answer as Reply}
use Rattle.secondary.specs.declared.reply.Answer.TheVariants.{Reset, Ack}
use Rattle.secondary.specs.Buffers.{oldest_of}
use Rattle.secondary.specs.Station.{Message, Station, or_kept, data_answer, after_data, take_rules, take_answer, after_take, give_rules, give_answer, after_give}

-- ENQ and DATA under a receive limit, take into a place of so many bytes, give back by line number and buffer number
pub data Call : Type 0 where
  Enq : ℕ → Call
  Data : ℕ → Number → Message → Call
  Take : ℕ → Call
  Give : ℕ → ℕ → Call

abbrev pub after : Call → Station → Station
after (Enq limit) s = s
after (Data limit n m) s = after_data limit n m s
after (Take size) s = after_take size s
after (Give line buffer) s = after_give line buffer s

abbrev pub after_all : List Call → Station → Station
after_all [] s = s
after_all (c ∷ cs) s = after_all cs (after c s)

-- the message of a DATA that is answered by an ACK
abbrev pub acked : Answer (Option Reply) → Message → List Message
acked (refused n) m = []
acked (gave None) m = []
acked (gave (Some Reset)) m = []
acked (gave (Some (Ack n credit))) m = m ∷ []

abbrev pub stored_by : Call → Station → List Message
stored_by (Enq limit) s = []
stored_by (Data limit n m) s = acked (data_answer limit n m s) m
stored_by (Take size) s = []
stored_by (Give line buffer) s = []

-- the message that was taken and is not yet given back, after a call
abbrev pub in_hand : List Message → Call → Station → List Message
in_hand hand (Enq limit) s = hand
in_hand hand (Data limit n m) s = hand
in_hand hand (Take size) s = or_kept (judged (take_rules size s) (oldest_of s.held ∷ [])) hand
in_hand hand (Give line buffer) s = or_kept (judged (give_rules line buffer s) []) hand

abbrev pub given_by : List Message → Call → Station → List Message
given_by hand (Enq limit) s = []
given_by hand (Data limit n m) s = []
given_by hand (Take size) s = []
given_by hand (Give line buffer) s = or_kept (judged (give_rules line buffer s) hand) []

-- what the calls store, and what they take and give back, in the order of the calls
abbrev pub stored_all : List Call → Station → List Message
stored_all [] s = []
stored_all (c ∷ cs) s = stored_by c s ++ stored_all cs (after c s)

abbrev pub given_all : List Message → List Call → Station → List Message
given_all hand [] s = []
given_all hand (c ∷ cs) s = given_by hand c s ++ given_all (in_hand hand c s) cs (after c s)

-- deliveries leave in the order stored, none lost and none twice: after any calls, what was taken and given back, and then
-- what is still held, is what was stored
abbrev pub LeaveInOrder : Station → Type 0
LeaveInOrder s = (calls : List Call) → given_all [] calls s ++ (after_all calls s).held ≡ stored_all calls s

-- a call that does not give back the slip of these two numbers
abbrev pub Spares : ℕ → ℕ → List Call → Type 0
Spares line buffer [] = Unit {0}
Spares line buffer (Enq limit ∷ cs) = Spares line buffer cs
Spares line buffer (Data limit n m ∷ cs) = Spares line buffer cs
Spares line buffer (Take size ∷ cs) = Spares line buffer cs
Spares line buffer (Give l b ∷ cs) = (l ≡ line → b ≢ buffer) × Spares line buffer cs

-- a slip's buffer is out until it is given back: after any other calls, take is refused with 22 and the slip is taken back
abbrev pub StaysOut : ℕ → ℕ → Station → Type 0
StaysOut line buffer s = (calls : List Call) → Spares line buffer calls
    → ((size : ℕ) → 96 ≤ size → take_answer size (after_all calls s) ≡ refused 22) × (give_answer line buffer (after_all calls s) ≡ gave tt)
