-- What a noisy medium does to a burst that its pattern hits.
use Rattle.std.proofs.Common.{◌≡◌, ℕ, ◌<◌, true, ◌≢◌, List, length, get_or, sym, ap, ◌∙◌, arith}
use lib.Bits.{bit_xor, xor_self, xor_assoc, xor_zero_l, xor_lt}
use Rattle.buffer.specs.Buffers.{flipped}
use Rattle.medium.specs.declared.offer.Offer.{Offer}
use Rattle.medium.specs.declared.offer.Offer.TheVariants.{Spoilt}
use Rattle.medium.specs.declared.queue.QueueMedium.{QueueMedium}
use Rattle.medium.specs.Bursts.{carried}
use Rattle.medium.specs.Offered.{Offered}
use Rattle.medium.specs.Queue.{queued, TakesIn}
use Rattle.medium.proofs.Altering.{altered_queued}

-- an inverted bit makes another byte
flip_differs : (x : ℕ) → bit_xor x 1 ≢ x
flip_differs x e =
    let z : bit_xor x (bit_xor x 1) ≡ 0 = ap (bit_xor x) e ∙ xor_self x in
    let o : bit_xor x (bit_xor x 1) ≡ 1 = sym (xor_assoc x x 1) ∙ ap (λ a. bit_xor a 1) (xor_self x) ∙ xor_zero_l 1 in
    omega arith

pub hit_meaning : (q q' : QueueMedium) (b : List ℕ) (i : ℕ) (r : Offer) → carried b ≡ true → i < length b → get_or b i 0 < 256
    → TakesIn q (flipped b i) r q' → Offered (queued q) b Spoilt (queued q')
hit_meaning q q' b i r k h l t =
    altered_queued b i (bit_xor (get_or b i 0) 1) k h (xor_lt 8 (get_or b i 0) 1 l (omega arith)) (flip_differs (get_or b i 0)) q q' r t
