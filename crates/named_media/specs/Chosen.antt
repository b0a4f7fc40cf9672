-- What a medium of a kind that is chosen at run time stands for and does. Assumes nothing.
use Rattle.std.specs.Prelude.{◌≡◌, ℕ, List, length}
use Rattle.medium.specs.declared.offer.Offer.{Offer}
use Rattle.medium.specs.Offered.{whole_if}
use Rattle.medium.specs.Queue as queue
use Rattle.medium.specs.declared.queue.QueueMedium.{QueueMedium}
use Rattle.medium_script.specs.declared.spec.Base.TheVariants as base
use Rattle.noise.specs.declared.noisy.NoisyMedium.{NoisyMedium}
use Rattle.packing.specs.Packed.{carries}
use Rattle.packing.specs.declared.packed.PackedMedium.{PackedMedium}
use Rattle.ring.specs.Ring as ring
use Rattle.named_media.specs.Media.{Carrier, Memory, carrier_of, memory_of, offered, goes_whole, taken}
use Rattle.named_media.specs.declared.chosen.MediumKind.{MediumKind}
use Rattle.named_media.specs.declared.chosen.MediumKind.TheVariants.{Queue, Packed, Noisy}
use Rattle.named_media.specs.declared.chosen.ChosenMedium.{ChosenMedium}

-- media of each kind under the pattern p of loss
abbrev pub a_queue : QueueMedium → ℕ → Carrier
a_queue m p = carrier_of (base.Queue (queue.places m)) p 0 (queue.queued m)

abbrev pub a_packed : PackedMedium → ℕ → Carrier
a_packed m p = carrier_of (base.Packed (ring.places m.ring)) p 0 (carries m)

abbrev pub a_noisy : NoisyMedium → ℕ → Carrier
a_noisy m p = carrier_of (base.Noisy (queue.places m.queue) m.pattern.bits) p m.offers (queue.queued m.queue)

abbrev pub carrier_as : MediumKind → ChosenMedium → Carrier
carrier_as Queue m = a_queue m.queue.medium m.queue.pattern.bits
carrier_as Packed m = a_packed m.packed.medium.now m.packed.pattern.bits
carrier_as Noisy m = a_noisy m.noisy.medium m.noisy.pattern.bits

abbrev pub carrier : ChosenMedium → Carrier
carrier m = carrier_as m.kind m

abbrev pub memory : ChosenMedium → Memory
memory m =
    memory_of (length (queue.memory m.queue.medium)) (length (ring.memory m.packed.medium.now.ring))
    (length (queue.memory m.noisy.medium.queue))

abbrev pub bursts : ChosenMedium → List (List ℕ)
bursts m = (carrier m).bursts

-- what an offer of b does
pub record Offers (m : ChosenMedium) (b : List ℕ) (r : Offer) (m' : ChosenMedium) : Type 0 where
  pub answer : r ≡ whole_if (goes_whole b (carrier m))
  pub after : carrier m' ≡ offered b (carrier m)
  pub memory : memory m' ≡ memory m

-- what a take does
pub record Takes (m m' : ChosenMedium) : Type 0 where
  pub after : carrier m' ≡ taken (carrier m)
  pub memory : memory m' ≡ memory m
