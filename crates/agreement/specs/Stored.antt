-- Which of a side's accepted messages the far side stored.
use Rattle.std.specs.Prelude.{◌≡◌, ℕ, Bool, List, [], ◌∷◌, ◌++◌, Some, None, Option}
use Rattle.packet.specs.Refusals.{refused, gave}
use Rattle.primary.specs.declared.outcome.Outcome.TheVariants.{Arrived, GivenUp, NoConnection}
use Rattle.agreement.specs.declared.sides.Side.{Side}
use Rattle.agreement.specs.Line.{side_number, Line}
use Rattle.agreement.specs.Calls.{ReadOut, read, Step}
use Rattle.agreement.specs.Transcript.{Fate, unsettled, got, Accepted}

-- further read-outs alone would give these messages, until one answers 23
pub data Gives (c : ℕ) (check : List ℕ → List ℕ) (s : Side) : Line → List (List ℕ) → Type 0 where
  no_more : {l : Line} (l' : Line) → Step c check l (side_number s) (ReadOut 96) (refused 23) None l' → Gives c check s l []
  one_more : {l : Line} (l' : Line) {m : List ℕ} {ms : List (List ℕ)}
      → Step c check l (side_number s) (ReadOut 96) (gave (read m)) None l' → Gives c check s l' ms → Gives c check s l (m ∷ ms)

-- an answer bears a message's number
abbrev pub Bears : Option Bool → Option Bool → Type 0
Bears None n = ⊥
Bears (Some k) None = ⊥
Bears (Some k) (Some n) = k ≡ n

-- A message is stored where its outcome is arrived, or the far side's last answer bears its number: the present one while the
-- message has no outcome, the one then standing when it was given up. One that got no connection was never sent.
abbrev pub Meets : Option Bool → Option Bool → Fate → Type 0
Meets now n unsettled = Bears now n
Meets now n (got Arrived l) = Unit {0}
Meets now n (got GivenUp l) = Bears l n
Meets now n (got NoConnection l) = ⊥

-- The list on the right has the messages that are stored, in order, none twice.
pub data Picks (now : Option Bool) : List Accepted → List (List ℕ) → Type 0 where
  none_left : Picks now [] []
  picked : {e : Accepted} {es : List Accepted} {ms : List (List ℕ)} → Meets now e.number e.fate → Picks now es ms → Picks now (e ∷ es) (e.message ∷ ms)
  passed_by : {e : Accepted} {es : List Accepted} {ms : List (List ℕ)} → (Meets now e.number e.fate → ⊥) → Picks now es ms → Picks now (e ∷ es) ms

-- The messages on the right are the first of those that are stored.
abbrev pub Begins : Option Bool → List Accepted → List (List ℕ) → Type 0
Begins now es ms = (rest : List (List ℕ)) × Picks now es (ms ++ rest)
