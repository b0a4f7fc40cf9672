use Rattle.std.proofs.Common.{◌≡◌, ◌<◌, ◌≤◌, List, ℕ, length, true, refl, subst, arith, rules}
use Rattle.medium.specs.Bursts.{carried}
use Rattle.medium.specs.Queue.{TakesIn}
use Rattle.stranger_media.specs.Altering.{one_more}
use Rattle.stranger_media.proofs.Handed.{handed, meaning, bursts}
use Rattle.stranger_media.proofs.altering.AlteringMediumMedium.offer.Goals as goal

pub returns-clause-meaning : goal.returns-clause-meaning
returns-clause-meaning c =
    let q = c.args.self.now.queue in
    let b = c.args.burst.now in
    let some : 0 < length b = omega arith in
    let few : length b ≤ 104 = omega arith in
    let k : carried b ≡ true = search rules in
    let t : TakesIn q (one_more b) c.offer.result c.offer.new.self =
    subst (λ (ys : List ℕ). TakesIn q ys c.offer.result c.offer.new.self) (handed b c.padded-altered.result some few c.padded-altered.ensures) c.offer.ensures.exact in
    meaning q c.offer.new.self b c.offer.result t k some (omega (arith, c.type_inv.burst 0))

pub returns-clause-exact : goal.returns-clause-exact
returns-clause-exact c =
    let q = c.args.self.now.queue in
    let b = c.args.burst.now in
    let some : 0 < length b = omega arith in
    let few : length b ≤ 104 = omega arith in
    let t : TakesIn q (one_more b) c.offer.result c.offer.new.self =
    subst (λ (ys : List ℕ). TakesIn q ys c.offer.result c.offer.new.self) (handed b c.padded-altered.result some few c.padded-altered.ensures) c.offer.ensures.exact in
    record { answer = refl; bursts = bursts q c.offer.new.self b c.offer.result t; kept = t.kept }
