use Rattle.std.proofs.Common.{length, drop}
use Rattle.std.specs.Fmt.{IsPlainFormatter}
use Rattle.notation.proofs.Pairs.{AreLeft}
use Rattle.notation.proofs.hex.HexDisplay.fmt.Given as goal

abbrev pub invariant-loop-rest : goal.invariant-loop-rest
invariant-loop-rest g l =
    IsPlainFormatter l.fn.f → AreLeft g.W.Write.write_str_gives l.fn.f l.fn.self.bytes.now l.rest l.f

abbrev pub decreases-loop-rest : goal.decreases-loop-rest
decreases-loop-rest g l = length l.rest

abbrev pub invariant-loop-b : goal.invariant-loop-b
invariant-loop-b g l =
    IsPlainFormatter l.fn.f → AreLeft g.W.Write.write_str_gives l.fn.f l.fn.self.bytes.now (drop l.b-index l.b-items) l.f
