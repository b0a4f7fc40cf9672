use Rattle.std.proofs.Common.{◌≡◌, ◌%◌, take}
use Rattle.packet.specs.Checks.{sum_of}
use Rattle.packet.proofs.sum.SumCheck.check.Given as goal

abbrev pub invariant-loop-b : goal.invariant-loop-b
invariant-loop-b l = l.sum % 128 ≡ sum_of (take l.b-index l.covered) % 128
