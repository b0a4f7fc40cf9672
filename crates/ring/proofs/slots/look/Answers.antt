use Rattle.std.proofs.Common.{arith}
use Rattle.ring.proofs.Spans.{some_at}
use Rattle.ring.proofs.slots.look.Goals as goal

pub returns : goal.returns
returns g c =
    some_at c.args.slots.now c.args.span c.within-s.result c.args.k c.place-i.result c.index-slots-i.result
    c.within-s.ensures (omega arith)
    c.place-i.ensures c.index-slots-i.is
