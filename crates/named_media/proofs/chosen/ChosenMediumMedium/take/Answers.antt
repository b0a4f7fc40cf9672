use Rattle.medium_script.specs.declared.spec.Base.TheVariants as base
use Rattle.named_media.specs.Chosen.{memory}
use Rattle.named_media.specs.Media.{carrier_of, memory_of}
use Rattle.named_media.proofs.Offers.{same_memory}
use Rattle.named_media.proofs.chosen.ChosenMediumMedium.take.Goals as goal

pub returns-in-Queue-clause-exact : goal.returns-in-Queue-clause-exact
returns-in-Queue-clause-exact c =
    let n = memory c.args.self.now in
    let e = c.take.ensures in
    let kept = e.exact.0 in
    let size = same_memory _ _ kept in
    rw c.in-Queue.is (record { after = λ i. carrier_of (base.Queue (kept.places i)) (e.exact.1 i).bits 0 (e.after i); memory = λ i. memory_of (size i) n.for_packed n.for_noisy })

pub returns-in-Packed-clause-exact : goal.returns-in-Packed-clause-exact
returns-in-Packed-clause-exact c =
    let n = memory c.args.self.now in
    let e = c.take-in-Packed.ensures in
    let kept = e.exact.0.0 in
    let size = same_memory _ _ kept in
    rw c.in-Packed.is (record { after = λ i. carrier_of (base.Packed (kept.places i)) (e.exact.1 i).bits 0 (e.after i); memory = λ i. memory_of n.for_queue (size i) n.for_noisy })

pub returns-in-Noisy-clause-exact : goal.returns-in-Noisy-clause-exact
returns-in-Noisy-clause-exact c =
    let n = memory c.args.self.now in
    let e = c.take-in-Noisy.ensures in
    let kept = e.exact.0.kept in
    let size = same_memory _ _ kept in
    rw c.in-Noisy.is (record { after = λ i. carrier_of (base.Noisy (kept.places i) (e.exact.0.pattern i).bits) (e.exact.1 i).bits (e.exact.0.offers i) (e.after i); memory = λ i. memory_of n.for_queue n.for_packed (size i) })
