-- What a layer does that loses every other burst. Assumes nothing.
use Rattle.std.specs.Prelude.{◌≡◌, ℕ, Bool, not, List}
use Rattle.medium.specs.declared.offer.Offer.{Offer}
use Rattle.noise.specs.Lossy.{Below}

-- an offer of b, over a medium m whose offers are `offers`; l says that this one is lost
pub record Alternates {M : Type 0} (offers : M → List ℕ → Offer → M → Type 0) (m : M) (l : Bool) (b : List ℕ) (r : Offer) (m' : M) (l' : Bool) : Type 0 where
  pub turn : l' ≡ not l
  pub below : Below (not l) offers m b r m'
