-- What an offer may do. Assumes nothing.
use Rattle.std.specs.Prelude.{◌≡◌, ℕ, Bool, true, false, ◌⊎◌, List, [], ◌∷◌, ◌++◌, codes}
use Rattle.medium.specs.declared.offer.Offer.{Offer}
use Rattle.medium.specs.declared.offer.Offer.TheVariants.{Whole, Spoilt}
use Rattle.medium.specs.Bursts.{carried, Altered}

-- the bursts before and after an offer of b, by its answer
abbrev pub Offered : List (List ℕ) → List ℕ → Offer → List (List ℕ) → Type 0
Offered before b Whole after = (carried b ≡ true) × (after ≡ before ++ b ∷ [])
Offered before b Spoilt after = (after ≡ before) ⊎ ((carried b ≡ true) × ((b' : List ℕ) × (Altered b b' × (after ≡ before ++ b' ∷ []))))

-- the answer whole exactly where a test says so
abbrev pub whole_if : Bool → Offer
whole_if true = Whole
whole_if false = Spoilt

-- how an answer is printed
abbrev pub name_of : Offer → List ℕ
name_of Whole = codes "whole"
name_of Spoilt = codes "spoilt"
