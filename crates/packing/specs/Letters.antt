-- The letters of bursts in a row of bytes. Assumes nothing.
use Rattle.std.specs.Prelude.{ℕ, List, map, drop, slice_index}
use Rattle.ring.specs.Ring.{elements}
use Rattle.packing.specs.declared.letters.Letters.{Letters}
use Rattle.packing.specs.Rowed.{unpacked}

-- the second byte of each burst, or 0 where it has none
abbrev pub letters_of : List (List ℕ) → List ℕ
letters_of bs = map (λ b. slice_index b 1) bs

-- what is still to come
abbrev pub left : Letters → List ℕ
left it = letters_of (unpacked (drop it.at (elements it.ring.now)))
