use Rattle.std.proofs.Common.{◌+◌}
use Rattle.ring.specs.Ring.{elements}
use Rattle.packing.proofs.Walks.{looked, letter_long}
use Rattle.packing.proofs.letters.Letters.letter.Goals as goal

pub returns-then-len-gt1 : goal.returns-then-len-gt1
returns-then-len-gt1 c =
    let it = c.args.self.now in
    letter_long (elements it.ring.now) it.at c.args.len c.unwrap.result c.if-len-gt1.true
    (looked (elements it.ring.now) (it.at + 3) c.unwrap.result c.look.result c.look.ensures c.unwrap.ensures)
