use Rattle.std.proofs.Common.{arith}
use Rattle.ring.proofs.Spans.{some_at, take_after}
use Rattle.ring.proofs.slots.take.Goals as goal

pub returns-clause-value : goal.returns-clause-value
returns-clause-value g c =
    some_at c.args.slots.now c.args.span.now c.within-s.result 0 c.place-i.result c.index-slots-i.result c.within-s.ensures (omega arith) c.place-i.ensures c.index-slots-i.is

pub returns-clause-after : goal.returns-clause-after
returns-clause-after g c =
    take_after c.args.slots.now c.args.span.now c.within-s.result c.place-i.result c.within-s.ensures (omega arith) c.place-i.ensures
