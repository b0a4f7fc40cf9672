-- What a lossy layer does. Assumes nothing.
use Rattle.std.specs.Prelude.{◌≡◌, ℕ, Bool, true, false, cond, not, ◌&&◌, List}
use Rattle.medium.specs.declared.offer.Offer.{Offer}
use Rattle.medium.specs.declared.offer.Offer.TheVariants.{Spoilt}
use Rattle.medium.specs.Bursts.{carried}
use Rattle.noise.specs.Patterns.{low, turned}

-- what the medium below does: the offer is its own, or it hears nothing and the answer is spoilt
abbrev pub Below : {M : Type 0} → Bool → (M → List ℕ → Offer → M → Type 0) → M → List ℕ → Offer → M → Type 0
Below true offers m b r m' = offers m b r m'
Below false offers m b r m' = (r ≡ Spoilt) × (m' ≡ m)

-- an offer of b at the pattern p, over a medium m whose offers are `offers`
pub record Passes {M : Type 0} (offers : M → List ℕ → Offer → M → Type 0) (m : M) (p : ℕ) (b : List ℕ) (r : Offer) (m' : M) (p' : ℕ) : Type 0 where
  pub pattern : p' ≡ cond (carried b) (turned p) p
  pub below : Below (carried b && not (low p)) offers m b r m'
