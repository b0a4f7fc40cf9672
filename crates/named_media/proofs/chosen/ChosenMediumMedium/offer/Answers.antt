use Rattle.named_media.specs.Chosen.{memory}
use Rattle.named_media.specs.Media.{memory_of}
use Rattle.named_media.proofs.Offers.{queue_offered, packed_offered, noisy_offered}
use Rattle.named_media.proofs.chosen.ChosenMediumMedium.offer.Goals as goal

pub returns-in-Queue-clause-exact : goal.returns-in-Queue-clause-exact
returns-in-Queue-clause-exact c =
    let n = memory c.args.self.now in
    let d = queue_offered c.args.self.now.queue.medium c.offer.new.self.medium c.args.self.now.queue.pattern.bits c.offer.new.self.pattern.bits c.args.burst.now c.offer.result c.offer.ensures.exact in
    rw c.in-Queue.is (record { answer = d.answer; after = d.after; memory = λ i. memory_of (d.size i) n.for_packed n.for_noisy })

pub returns-in-Packed-clause-exact : goal.returns-in-Packed-clause-exact
returns-in-Packed-clause-exact c =
    let n = memory c.args.self.now in
    let d = packed_offered c.args.self.now.packed.medium c.offer-in-Packed.new.self.medium c.args.self.now.packed.pattern.bits c.offer-in-Packed.new.self.pattern.bits c.args.burst.now c.offer-in-Packed.result c.offer-in-Packed.ensures.exact in
    rw c.in-Packed.is (record { answer = d.answer; after = d.after; memory = λ i. memory_of n.for_queue (d.size i) n.for_noisy })

pub returns-in-Noisy-clause-exact : goal.returns-in-Noisy-clause-exact
returns-in-Noisy-clause-exact c =
    let n = memory c.args.self.now in
    let d = noisy_offered c.args.self.now.noisy.medium c.offer-in-Noisy.new.self.medium c.args.self.now.noisy.pattern.bits c.offer-in-Noisy.new.self.pattern.bits c.args.burst.now c.offer-in-Noisy.result c.offer-in-Noisy.ensures.exact in
    rw c.in-Noisy.is (record { answer = d.answer; after = d.after; memory = λ i. memory_of n.for_queue n.for_packed (d.size i) })
