use Rattle.std.proofs.Common.{true, arith, rules}
use Rattle.std.proofs.lemmas.Grind.{common_steps}
use Rattle.ring.specs.Ring.{elements}
use Rattle.packing.proofs.Rowed.{packs_if, unpacked_if}
use Rattle.packing.proofs.packed_medium.PackedMediumMedium.offer.Goals as goal

pub invariant_of-self : goal.invariant_of-self
invariant_of-self c = record {
  packs = packs_if (elements c.args.self.now.ring) (elements c.pack.new.ring) c.args.burst.now c.pack.result
      c.args.self.now.packs (omega arith, omega arith) c.pack.ensures.after;
}

pub returns-then-pack-clause-meaning : goal.returns-then-pack-clause-meaning
returns-then-pack-clause-meaning c = (
  search rules,
  unpacked_if (elements c.args.self.now.ring) (elements c.pack.new.ring) c.args.burst.now true c.args.self.now.packs (omega arith, omega arith) c.if-pack.ensures.after,
)

pub returns-then-pack-clause-exact : goal.returns-then-pack-clause-exact
returns-then-pack-clause-exact c =
    let u = unpacked_if (elements c.args.self.now.ring) (elements c.pack.new.ring) c.args.burst.now true c.args.self.now.packs (omega arith, omega arith) c.if-pack.ensures.after in
    record { answer = search rules; bursts = grind (arith, common_steps, u); bytes = search rules; kept = c.pack.ensures.place }
