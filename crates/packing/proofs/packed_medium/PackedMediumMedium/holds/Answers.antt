use Rattle.std.proofs.Common.{get_or, sym, rules, ◌∙◌}
use Rattle.std.proofs.lemmas.Iterator.Consumers.{YieldsList-from_first}
use Rattle.std.proofs.lemmas.Iterator.Search.{any_from_yields_List}
use Rattle.medium.specs.Classes.{letters}
use Rattle.medium.proofs.Lists.{list_any-map}
use Rattle.packing.specs.Letters.{left}
use Rattle.packing.specs.Packed.{carries}
use Rattle.packing.proofs.packed_medium.PackedMediumMedium.holds.Goals as goal

pub returns : goal.returns
returns c =
    any_from_yields_List (letters c.args.class) c.any.new.self _ c.any.result c.any.ensures.ran (YieldsList-from_first (λ l. l) left _ c.letters.ensures.letters) (λ x b q k. search rules)
    ∙ sym (list_any-map (letters c.args.class) (λ b. get_or b 1 0) (carries c.args.self.now))
