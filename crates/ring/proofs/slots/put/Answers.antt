use Rattle.std.proofs.Common.{arith}
use Rattle.ring.proofs.Spans.{put_after}
use Rattle.ring.proofs.slots.put.Goals as goal

pub returns-clause-after : goal.returns-clause-after
returns-clause-after g c =
    put_after c.args.slots.now c.args.span.now c.within-s.result c.place-i.result c.args.x c.within-s.ensures (omega arith) c.place-i.ensures
