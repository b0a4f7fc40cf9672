-- What an altering medium hands its queue. Assumes nothing.
use Rattle.std.proofs.Common.{◌≡◌, ℕ, ◌+◌, ◌-◌, ◌%◌, ◌<◌, ◌≤◌, ◌≢◌, true, cond, ◌&&◌, List, [], ◌∷◌, ◌++◌, length, get_or, take, set, replicate, sym, ap, ◌∙◌, arith}
use Rattle.std.proofs.lemmas.List.{get_or-take}
use Rattle.std.proofs.Math.Seq.{take-set-lt}
use Rattle.medium.specs.declared.offer.Offer.{Offer}
use Rattle.medium.specs.declared.offer.Offer.TheVariants.{Spoilt}
use Rattle.medium.specs.declared.queue.QueueMedium.{QueueMedium}
use Rattle.medium.specs.Bursts.{carried}
use Rattle.medium.specs.Offered.{Offered}
use Rattle.medium.specs.Queue.{queued, free, TakesIn}
use Rattle.medium.proofs.Altering.{carried_set, altered_queued}
use Rattle.medium.proofs.Written.{front_padded}
use Rattle.stranger_media.specs.Altering.{one_more}

-- p is the burst b with zeros behind it
module _ (b p : List ℕ) (some : 0 < length b) (few : length b ≤ 104) (e : p ≡ take 104 b ++ replicate (104 - length b) 0) where
  front : take (length b) p ≡ b
  front = ap (take (length b)) e ∙ front_padded b few

  first : get_or p 0 0 ≡ get_or b 0 0
  first = sym (get_or-take (length b) p 0 0 some) ∙ ap (λ xs. get_or xs 0 0) front

  pub handed : take (length b) (set p 0 ((get_or p 0 0 + 1) % 256)) ≡ one_more b
  handed =
      take-set-lt (length b) p 0 ((get_or p 0 0 + 1) % 256) some ∙ ap (λ xs. set xs 0 ((get_or p 0 0 + 1) % 256)) front
      ∙ ap (λ x. set b 0 ((x + 1) % 256)) first

another : (x : ℕ) → x < 256 → (x + 1) % 256 ≢ x
another x h e = omega arith

module _ (q q' : QueueMedium) (b : List ℕ) (r : Offer) (t : TakesIn q (one_more b) r q') where
  pub meaning : carried b ≡ true → 0 < length b → get_or b 0 0 < 256 → Offered (queued q) b Spoilt (queued q')
  meaning k h l = altered_queued b 0 ((get_or b 0 0 + 1) % 256) k h (omega arith) (another (get_or b 0 0) l) q q' r t

  pub bursts : queued q' ≡ cond (carried b && free q) (queued q ++ one_more b ∷ []) (queued q)
  bursts = t.bursts ∙ ap (λ c. cond (c && free q) (queued q ++ one_more b ∷ []) (queued q)) (carried_set b 0 ((get_or b 0 0 + 1) % 256))
