-- What a store in a lent slice holds, and where.
use Rattle.std.specs.Prelude.{◌≡◌, ℕ, ◌+◌, ◌-◌, min, cond, List, ◌++◌, length, take, drop, nat_lt}
use Rattle.ring.specs.declared.slots.Span.{Span}

-- the first `len` elements of a memory that is read from `head` to its end and then from its start
abbrev pub around : {X : Type 0} → List X → ℕ → ℕ → List X
around xs head len = take len (drop head xs ++ take head xs)

-- the elements, oldest first; memory beyond the limit holds none
abbrev pub held : {X : Type 0} → List X → Span → List X
held xs s = around (take s.limit xs) s.head s.len

-- for how many elements there are places
abbrev pub room : {X : Type 0} → List X → Span → ℕ
room xs s = min (length xs) s.limit

-- the place of the k-th oldest element in a memory of n places
abbrev pub place : ℕ → ℕ → ℕ → ℕ
place n head k = cond (nat_lt k (n - head)) (head + k) (k - (n - head))

-- w has the numbers of s, put within a memory of n places
pub record Within (n : ℕ) (s w : Span) : Type 0 where
  pub limit : w.limit ≡ min n s.limit
  pub head : w.head ≡ min s.head w.limit
  pub len : w.len ≡ min s.len w.limit
