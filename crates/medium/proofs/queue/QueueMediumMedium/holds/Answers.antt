use Rattle.std.proofs.Common.{get_or, rules, ◌∙◌}
use Rattle.std.proofs.lemmas.Iterator.Consumers.{YieldsList-from_first}
use Rattle.std.proofs.lemmas.Iterator.Search.{any_from_yields_List}
use Rattle.ring.specs.Iter.{left}
use Rattle.ring.specs.Ring.{elements}
use Rattle.medium.specs.Classes.{letters}
use Rattle.medium.specs.Records.{bytes_of}
use Rattle.medium.proofs.Lists.{list_any-map}
use Rattle.medium.proofs.queue.QueueMediumMedium.holds.Goals as goal

pub returns : goal.returns
returns c =
    any_from_yields_List (λ b. letters c.args.class (get_or (bytes_of b) 1 0)) c.any.new.self _ c.any.result c.any.ensures.ran
    (YieldsList-from_first (λ b. b) left (elements c.args.self.now.ring) c.iter.ensures) (λ x b q k. search rules)
    ∙ list_any-map (λ b. letters c.args.class (get_or b 1 0)) bytes_of (elements c.args.self.now.ring)
