use Rattle.std.proofs.Common.{get_or, ◌∙◌}
use Rattle.std.proofs.lemmas.List.{length-map}
use Rattle.std.proofs.lemmas.Iterator.Consumers.{count_from_yields_List, YieldsList-from_first}
use Rattle.packing.specs.AllCarried.{all_carried}
use Rattle.packing.specs.Letters.{left}
use Rattle.packing.specs.Packed.{carries}
use Rattle.packing.proofs.packed_medium.PackedMediumMedium.count.Goals as goal

pub returns-clause-value : goal.returns-clause-value
returns-clause-value c =
    count_from_yields_List _ c.count.result c.count.ensures.ran (YieldsList-from_first (λ l. l) left _ c.letters.ensures.letters)
    ∙ length-map (carries c.args.self.now) (λ b. get_or b 1 0)

pub returns-clause-carried : goal.returns-clause-carried
returns-clause-carried c = all_carried c.args.self.now
