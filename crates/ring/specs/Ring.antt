-- What a ring holds.
use Rattle.std.specs.Prelude.{◌≡◌, ℕ, min, List, [], length, drop}
use Rattle.ring.specs.Slots.{held, room}
use Rattle.ring.specs.declared.Ring.{Ring}

-- its elements, oldest first
abbrev pub elements : {X : Type 0} → Ring X → List X
elements r = held r.slots.now r.span

-- for how many elements it has places
abbrev pub places : {X : Type 0} → Ring X → ℕ
places r = room r.slots.now r.span

-- the memory beyond its limit
abbrev pub beyond : {X : Type 0} → Ring X → List X
beyond r = drop r.span.limit r.slots.now

-- all memory that it was lent
abbrev pub memory : {X : Type 0} → Ring X → List X
memory r = r.slots.now

-- r' lies in the memory of r: it has as many places, and the memory beyond the limit is as it was
pub record InPlace {X : Type 0} (r r' : Ring X) : Type 0 where
  pub places : places r' ≡ places r
  pub beyond : beyond r' ≡ beyond r

-- r is the empty store over all of xs, with up to n places
pub record Over {X : Type 0} (xs : List X) (n : ℕ) (r : Ring X) : Type 0 where
  pub elements : elements r ≡ []
  pub places : places r ≡ min (length xs) n
  pub beyond : beyond r ≡ drop n xs
  pub memory : memory r ≡ xs

-- r' is the empty store in all memory of r, with up to n places
pub record Anew {X : Type 0} (r : Ring X) (n : ℕ) (r' : Ring X) : Type 0 where
  pub elements : elements r' ≡ []
  pub places : places r' ≡ min (length (memory r)) n
  pub memory : memory r' ≡ memory r
