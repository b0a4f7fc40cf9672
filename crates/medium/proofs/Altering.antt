-- A burst with one byte altered, for every medium that alters some. Assumes nothing.
use Rattle.std.proofs.Common.{◌≡◌, ℕ, ◌<◌, Bool, true, false, cond, ◌&&◌, ltb, leb, ◌≢◌, List, [], ◌∷◌, ◌++◌, length, get_or, set, refl, ap, ◌∙◌, inl, inr}
use Rattle.std.proofs.lemmas.List.{length-set}
use Rattle.medium.specs.declared.offer.Offer.{Offer}
use Rattle.medium.specs.declared.offer.Offer.TheVariants.{Spoilt}
use Rattle.medium.specs.declared.queue.QueueMedium.{QueueMedium}
use Rattle.medium.specs.Bursts.{carried, Altered}
use Rattle.medium.specs.Offered.{Offered}
use Rattle.medium.specs.Queue.{queued, free, TakesIn}

-- a burst of as many bytes is carried or not
pub carried_set : (b : List ℕ) (i x : ℕ) → carried (set b i x) ≡ carried b
carried_set b i x = ap (λ n. ltb 0 n && leb n 104) (length-set b i x)

-- the byte x at the place i of the burst b is another one
module _ (b : List ℕ) (i x : ℕ) (k : carried b ≡ true) (h : i < length b) (s : x < 256) (d : x ≢ get_or b i 0) where
  alters : Altered b (set b i x)
  alters = record { place = i; byte = x; inside = h; small = s; differs = d; is = refl }

  -- the altered burst is under way where there is room, and the answer is spoilt
  pub altered_meaning : (before after : List (List ℕ)) (room : Bool) → after ≡ cond room (before ++ set b i x ∷ []) before → Offered before b Spoilt after
  altered_meaning before after true e = inr (k, (set b i x, (alters, e)))
  altered_meaning before after false e = inl e

  -- what a queue does that is offered the altered burst
  pub altered_in : (q q' : QueueMedium) (r : Offer) → TakesIn q (set b i x) r q' → queued q' ≡ cond (free q) (queued q ++ set b i x ∷ []) (queued q)
  altered_in q q' r t = t.bursts ∙ ap (λ c. cond (c && free q) (queued q ++ set b i x ∷ []) (queued q)) (carried_set b i x ∙ k)

  pub altered_queued : (q q' : QueueMedium) (r : Offer) → TakesIn q (set b i x) r q' → Offered (queued q) b Spoilt (queued q')
  altered_queued q q' r t = altered_meaning (queued q) (queued q') (free q) (altered_in q q' r t)
