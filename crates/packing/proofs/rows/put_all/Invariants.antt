use Rattle.std.proofs.Common.{◌≡◌, ◌++◌, take}
use Rattle.ring.specs.Ring.{elements, InPlace}
use Rattle.packing.proofs.rows.put_all.Given as goal

abbrev pub invariant-loop-b : goal.invariant-loop-b
invariant-loop-b l = record {
  added : elements l.ring ≡ elements l.initial.ring ++ take l.b-index l.bytes;
  place : InPlace l.initial.ring l.ring;
}
