use Rattle.std.proofs.Common.{◌+◌, arith}
use Rattle.ring.specs.Ring.{elements}
use Rattle.packing.proofs.Walks.{looked, lies}
use Rattle.packing.proofs.letters.Letters.length.Goals as goal

pub returns : goal.returns
returns c =
    let it = c.args.self.now in
    let xs = elements it.ring.now in
    lies xs it.at c.unwrap-high.result c.unwrap-low.result c.from_be_bytes.result it.packs (omega (arith, it.all, c.requires))
    (looked xs it.at c.unwrap-high.result c.look.result c.look.ensures c.unwrap-high.ensures)
    (looked xs (it.at + 1) c.unwrap-low.result c.look-2.result c.look-2.ensures c.unwrap-low.ensures)
    c.from_be_bytes.ensures
