use Rattle.std.proofs.Common.{◌≡◌, ℕ, ◌%◌, ◌<◌, true, List, length, ap, ◌∙◌, subst, arith, rules}
use Rattle.std.proofs.lemmas.Nat.{mod_below}
use Rattle.buffer.specs.Buffers.{contents, flipped}
use Rattle.medium.specs.Bursts.{carried}
use Rattle.medium.specs.Queue.{TakesIn}
use Rattle.noise.proofs.Hits.{hit_meaning}
use Rattle.noise.proofs.noisy.NoisyMediumMedium.offer.Goals as goal

pub returns-clause-meaning : goal.returns-clause-meaning
returns-clause-meaning c =
    let q = c.args.self.now.queue in
    let b = c.args.burst.now in
    let i = c.args.self.now.offers % length b in
    let some : 0 < length b = omega arith in
    let k : carried b ≡ true = search rules in
    let h : i < length b = mod_below c.args.self.now.offers (length b) some in
    let copied : contents c.unwrap-altered.result ≡ b = search rules in
    let x : TakesIn q (flipped b i) c.offer-2.result c.offer-2.new.self =
    subst (λ (ys : List ℕ). TakesIn q ys c.offer-2.result c.offer-2.new.self)
    (c.as_slice.ensures.bytes ∙ c.flip.ensures ∙ ap (λ (ys : List ℕ). flipped ys i) copied) c.offer-2.ensures.exact in
    hit_meaning q c.offer-2.new.self b i c.offer-2.result k h (omega (arith, c.type_inv.burst i)) x
