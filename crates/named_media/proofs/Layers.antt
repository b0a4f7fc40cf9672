-- An offer to any medium under a layer of loss. Assumes nothing.
use Rattle.std.proofs.Common.{◌≡◌, ℕ, Bool, true, false, cond, not, ◌&&◌, List, [], ◌∷◌, ◌++◌, refl, ap}
use Rattle.medium.specs.declared.offer.Offer.{Offer}
use Rattle.medium.specs.Bursts.{carried}
use Rattle.medium.specs.Offered.{whole_if}
use Rattle.medium_script.specs.declared.spec.Base.{Base}
use Rattle.noise.specs.Lossy.{Passes, Below}
use Rattle.noise.specs.Patterns.{low, turned}
use Rattle.named_media.specs.Media.{Carrier, carrier_of, has_room, hits, as_sent, after_offer, counted, reached, offered, goes_whole}

-- an offer of b, which no loss hits, to a medium of base x with k offers, the bursts bs and n places of memory
pub record Reached (x x' : Base) (k k' : ℕ) (bs bs' : List (List ℕ)) (n n' : ℕ) (b : List ℕ) (r : Offer) : Type 0 where
  pub answer : r ≡ whole_if (not (hits x) && has_room x bs b)
  pub base : x' ≡ after_offer x
  pub offers : k' ≡ counted x k
  pub bursts : bs' ≡ cond (has_room x bs b) (bs ++ as_sent x k b ∷ []) bs
  pub size : n' ≡ n

-- an offer of b to a made medium with n places of memory
pub record Does (c c' : Carrier) (n n' : ℕ) (b : List ℕ) (r : Offer) : Type 0 where
  pub answer : r ≡ whole_if (goes_whole b c)
  pub after : c' ≡ offered b c
  pub size : n' ≡ n

module _ {M : Type 0} (offers : M → List ℕ → Offer → M → Type 0) (base : M → Base) (count : M → ℕ) (bursts : M → List (List ℕ)) (size : M → ℕ) where
  abbrev seen : M → ℕ → Carrier
  seen m p = carrier_of (base m) p (count m) (bursts m)

  abbrev Reaches : M → List ℕ → Offer → M → Type 0
  Reaches m b r m' = Reached (base m) (base m') (count m) (count m') (bursts m) (bursts m') (size m) (size m') b r

  by_cases : (m m' : M) (p p' : ℕ) (b : List ℕ) (r : Offer) (c h : Bool) → (c ≡ true → offers m b r m' → Reaches m b r m') → p' ≡ cond c (turned p) p → Below (c && not h) offers m b r m' → (r ≡ whole_if (c && (not h && (not (hits (base m)) && has_room (base m) (bursts m) b)))) × (seen m' p' ≡ cond c (cond h (seen m (turned p)) (reached (turned p) (seen m p) b)) (seen m p)) × (size m' ≡ size m)
  by_cases m m' p p' b r false h exact turns below = (below.0, (λ i. seen (below.1 i) (turns i)), ap size below.1)
  by_cases m m' p p' b r true true exact turns below = (below.0, (λ i. seen (below.1 i) (turns i)), ap size below.1)
  by_cases m m' p p' b r true false exact turns below =
      let e = exact refl below in
      (e.answer, (λ i. carrier_of (e.base i) (turns i) (e.offers i) (e.bursts i)), e.size)

  pub layered : ((m m' : M) (b : List ℕ) (r : Offer) → carried b ≡ true → offers m b r m' → Reaches m b r m') → (m m' : M) (p p' : ℕ) (b : List ℕ) (r : Offer) → Passes offers m p b r m' p' → Does (seen m p) (seen m' p') (size m) (size m') b r
  layered exact m m' p p' b r passes =
      let d = by_cases m m' p p' b r (carried b) (low p) (exact m m' b r) passes.pattern passes.below in
      record { answer = d.0; after = d.1; size = d.2 }
