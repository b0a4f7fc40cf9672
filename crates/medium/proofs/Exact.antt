-- A medium that adds the offered burst exactly where a test says so has the meaning of a medium.
use Rattle.std.proofs.Common.{◌≡◌, ℕ, Bool, true, false, cond, ◌&&◌, List, [], ◌∷◌, ◌++◌, sym, refl, subst, inl}
use Rattle.medium.specs.declared.offer.Offer.{Offer}
use Rattle.medium.specs.Bursts.{carried}
use Rattle.medium.specs.Offered.{Offered, whole_if}

offered_if : (before after : List (List ℕ)) (b : List ℕ) (k f : Bool) → carried b ≡ k → after ≡ cond (k && f) (before ++ b ∷ []) before
    → Offered before b (whole_if (k && f)) after
offered_if before after b true true e q = (e, q)
offered_if before after b true false e q = inl q
offered_if before after b false f e q = inl q

pub offered : (before after : List (List ℕ)) (b : List ℕ) (f : Bool) (r : Offer) → r ≡ whole_if (carried b && f)
    → after ≡ cond (carried b && f) (before ++ b ∷ []) before → Offered before b r after
offered before after b f r e q =
    subst (λ (o : Offer). Offered before b o after) (sym e) (offered_if before after b (carried b) f refl q)
