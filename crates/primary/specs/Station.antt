-- A primary station as it is thought of, what it hears and what it does. Assumes nothing.
use Rattle.std.specs.Prelude.{ℕ, Bool, true, false, List, [], ◌∷◌, Some, None, Option}
use Rattle.primary.specs.declared.event.Timer.{Timer}

abbrev pub Message : Type 0
Message = List ℕ

-- Waiting and Asking have the current message and those that wait behind it, oldest first.
pub data Phase : Type 0 where
  off : Phase
  ready : Phase
  waiting : Message → List Message → Phase
  asking : Message → List Message → Phase

-- The outcomes are those not collected, oldest first, each by its number. A message's number 0 is false, 1 is true.
pub record Station : Type 0 where
  pub phase : Phase
  pub number : Bool
  pub attempts : ℕ
  pub credit : ℕ
  pub outcomes : List ℕ

pub data Heard : Type 0 where
  submission : Message → Heard
  reset : Heard
  ack : Bool → ℕ → Heard
  timeout : Heard

pub data Command : Type 0 where
  ENQ : Command
  DATA : Bool → Message → Command

-- The station after a step, the command sent, the timer set, and how many messages got each outcome.
pub record Did : Type 0 where
  pub next : Station
  pub sent : Option Command
  pub timer : Option Timer
  pub arrivals : ℕ
  pub give_ups : ℕ
  pub no_connections : ℕ

-- the messages without outcome, oldest first
abbrev pub unsettled_in : Phase → List Message
unsettled_in off = []
unsettled_in ready = []
unsettled_in (waiting m ms) = m ∷ ms
unsettled_in (asking m ms) = m ∷ ms

-- the one that DATA carries
abbrev pub current_in : Phase → Option Message
current_in off = None
current_in ready = None
current_in (waiting m ms) = Some m
current_in (asking m ms) = Some m

abbrev pub is_off : Phase → Bool
is_off off = true
is_off ready = false
is_off (waiting m ms) = false
is_off (asking m ms) = false
