use Rattle.std.proofs.Common.{get_or, arith}
use Rattle.std.proofs.lemmas.List.{length-map}
use Rattle.ring.specs.Ring.{elements}
use Rattle.packing.specs.Rowed.{unpacked}
use Rattle.packing.proofs.Rowed.{length_unpacked}
use Rattle.packing.proofs.packed.PackedMedium.letters.Goals as goal

pub returns-clause-counted : goal.returns-clause-counted
returns-clause-counted c =
    let xs = elements c.args.self.now.ring in
    omega (arith, length_unpacked xs c.args.self.now.packs, length-map (unpacked xs) (λ b. get_or b 1 0), c.count.ensures)
