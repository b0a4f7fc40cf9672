use Rattle.std.proofs.Common.{◌≡◌, ◌++◌, take, drop}
use Rattle.ring.specs.Ring.{elements, InPlace}
use Rattle.packing.proofs.rows.take_all.Given as goal

abbrev pub invariant-loop-byte : goal.invariant-loop-byte
invariant-loop-byte l = record {
  rest : elements l.ring ≡ drop l.byte-index (elements l.initial.ring);
  copied : l.byte-items ≡ take l.byte-index (elements l.initial.ring) ++ drop l.byte-index l.initial.byte-items;
  kept : InPlace l.initial.ring l.ring;
}
