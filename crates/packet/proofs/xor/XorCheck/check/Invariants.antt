use Rattle.std.proofs.Common.{◌≡◌, ◌%◌, take}
use Rattle.packet.specs.Checks.{xor_of}
use Rattle.packet.proofs.xor.XorCheck.check.Given as goal

abbrev pub invariant-loop-b : goal.invariant-loop-b
invariant-loop-b l = l.all % 128 ≡ xor_of (take l.b-index l.covered)
