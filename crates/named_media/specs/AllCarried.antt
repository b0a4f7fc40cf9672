-- Each burst of a medium of any kind has 1 to 104 bytes: the proof of the trait's law.
use Rattle.std.specs.List.{AllByRecursion}
use Rattle.medium.specs.AllCarried as queue
use Rattle.medium.specs.Bursts.{Carried}
use Rattle.packing.specs.AllCarried as packed
use Rattle.named_media.specs.Chosen.{carrier_as, bursts}
use Rattle.named_media.specs.declared.chosen.ChosenMedium.{ChosenMedium}
use Rattle.named_media.specs.declared.chosen.MediumKind.{MediumKind}
use Rattle.named_media.specs.declared.chosen.MediumKind.TheVariants.{Queue, Packed, Noisy}

carried_as : (k : MediumKind) (m : ChosenMedium) → AllByRecursion Carried (carrier_as k m).bursts
carried_as Queue m = queue.all_carried m.queue.medium
carried_as Packed m = packed.all_carried m.packed.medium.now
carried_as Noisy m = queue.all_carried m.noisy.medium.queue

pub all_carried : (m : ChosenMedium) → AllByRecursion Carried (bursts m)
all_carried m = carried_as m.kind m
