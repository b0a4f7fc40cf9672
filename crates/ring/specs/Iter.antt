-- What an iterator over a store has still to give.
use Rattle.std.specs.Prelude.{List}
use Rattle.ring.specs.Slots.{held}
use Rattle.ring.specs.declared.iter.Iter.{Iter}

-- the elements that are still to come
abbrev pub left : {X : Type 0} → Iter X → List X
left it = held it.slots.now it.span
