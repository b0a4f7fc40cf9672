use Rattle.std.proofs.Common.{◌≡◌, sym, ◌∙◌, arith, rules}
use Rattle.ring.specs.Ring.{elements}
use Rattle.packing.proofs.Same.{same_packed}
use Rattle.packing.proofs.Walks.{burst_taken}
use Rattle.packing.proofs.packed_medium.PackedMediumMedium.take.Goals as goal

pub invariant_of-self-2 : goal.invariant_of-self-2
invariant_of-self-2 c = record {
  packs = (burst_taken (elements c.args.self.now.ring) _ _ (elements c.take_all.new.ring) c.args.place.now _ _ _ c.args.self.now.packs (omega arith)
      c.in-Some.ensures.value c.take.ensures.after (sym c.unwrap-low.ensures ∙ c.take-2.ensures.value) c.take-2.ensures.after c.from_be_bytes-len.ensures
      c.take_all.ensures.after).0;
}

pub returns-clause-after : goal.returns-clause-after
returns-clause-after c =
    (burst_taken (elements c.args.self.now.ring) _ _ (elements c.take_all.new.ring) c.args.place.now _ _ _ c.args.self.now.packs (omega arith)
    c.in-Some.ensures.value c.take.ensures.after (sym c.unwrap-low.ensures ∙ c.take-2.ensures.value) c.take-2.ensures.after c.from_be_bytes-len.ensures
    c.take_all.ensures.after).1

pub returns-in_default-clause-unchanged : goal.returns-in_default-clause-unchanged
returns-in_default-clause-unchanged c z =
    let e : c.take.new.self ≡ c.args.self.now.ring = search rules in
    same_packed c.args.self.now _ e
