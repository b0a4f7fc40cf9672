use Rattle.std.proofs.Common.{length, ap, ◌∙◌, MutBor}
use Rattle.medium.specs.Queue as queue
use Rattle.packing.specs.declared.packed.PackedMedium.{PackedMedium}
use Rattle.ring.specs.Ring.{memory}
use Rattle.named_media.specs.Media.{memory_of}
use Rattle.named_media.proofs.Offers.{memory_lent}
use Rattle.named_media.proofs.chosen.ChosenMedium.over.Goals as goal

pub returns-clause-memory : goal.returns-clause-memory
returns-clause-memory c =
    let for_queue = ap (λ m. length (queue.memory m)) c.over-2.ensures.medium ∙ memory_lent _ _ _ c.over.ensures.ring in
    let for_packed = ap (λ (m : MutBor PackedMedium). length (memory m.now.ring)) c.over-3.ensures.medium in
    let for_noisy = ap (λ m. length (queue.memory m.queue)) c.over-5.ensures.medium ∙ memory_lent _ _ _ c.over-4.ensures.ring in
    λ i. memory_of (for_queue i) (for_packed i) (for_noisy i)
