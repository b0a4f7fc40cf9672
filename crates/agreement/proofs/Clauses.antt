-- What each call's clause cites.
use Rattle.std.proofs.Common.{◌≡◌, ℕ, List, length, Option}
use Rattle.packet.specs.Checks.{Each, Altered}
use Rattle.packet.specs.Refusals.{Answer}
use Rattle.medium.specs.declared.offer.Offer.{Offer}
use Rattle.agreement.specs.Line.{Line}
use Rattle.agreement.specs.Calls.{Call, Said, Step}
use Rattle.agreement.specs.Transcript.{then}
use Rattle.agreement.specs.Promise.{after}
use Rattle.agreement.specs.Theorem.{StaysKept, Keeps}
use Rattle.agreement.proofs.BothSides.{good, kept}

module _ (c : ℕ) (check : List ℕ → List ℕ) (sized : (xs : List ℕ) → length (check xs) ≡ c) (tells : (xs ys : List ℕ) → Each 0 0x7f xs → Each 0 0x7f ys → Altered xs ys → check xs ≡ check ys → ⊥) where
  pub stays_kept : StaysKept c check
  stays_kept h l r = kept c check (good c check sized tells r)

  pub keeps : (n : ℕ) (k : Call) (a : Answer Said) (o : Option Offer) (l l' : Line) → Step c check l n k a o l' → Keeps c check n k a o l l'
  keeps n k a o l l' s h r = let q = after {l' = l'} l r s in (q, stays_kept (then h n k a o) l' q)
