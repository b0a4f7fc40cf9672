use Rattle.std.proofs.Common.{◌≡◌, not, ◌&&◌, drop}
use Rattle.packet.specs.Letters.{each_between}
use Rattle.packet.proofs.letter.all_between.Given as goal

abbrev pub invariant-loop-b : goal.invariant-loop-b
invariant-loop-b l = (not l.bad && each_between l.low l.high (drop l.b-index l.bytes)) ≡ each_between l.low l.high l.bytes
