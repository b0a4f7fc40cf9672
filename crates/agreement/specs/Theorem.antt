-- The promise of an opened line, whatever its calls were and whatever its media did.
use Rattle.std.specs.Prelude.{ℕ, List, Option}
use Rattle.packet.specs.Refusals.{Answer}
use Rattle.medium.specs.declared.offer.Offer.{Offer}
use Rattle.agreement.specs.Line.{Line}
use Rattle.agreement.specs.Calls.{Call, Said}
use Rattle.agreement.specs.Transcript.{Transcript, then}
use Rattle.agreement.specs.Promise.{Reached, Kept}

-- by a kind with c check bytes
module _ (c : ℕ) (check : List ℕ → List ℕ) where
  abbrev pub StaysKept : Type 0
  StaysKept = (h : Transcript) (l : Line) → Reached c check h l → Kept c check h l

  -- As a clause of one call at the side numbered n, which takes the line from l to l': whatever calls led to l, they and this
  -- one lead to l', and the promise holds.
  abbrev pub Keeps : ℕ → Call → Answer Said → Option Offer → Line → Line → Type 0
  Keeps n k a o l l' = (h : Transcript) → Reached c check h l → Reached c check (then h n k a o) l' × Kept c check (then h n k a o) l'
