-- Records in turn: a table of eight, read from its head on and around its end. Assumes nothing.
use Rattle.std.specs.Prelude.{ℕ, ◌+◌, ◌%◌, List, map, slice_index_or}
use Rattle.std.specs.List.{range_with_len}

-- what f tells of the record at the k-th place from the head
abbrev pub in_turn : {R X : Type 0} → (R → X) → R → List R → ℕ → ℕ → X
in_turn f blank rs head k = f (slice_index_or rs ((head + k) % 8) blank)

-- what f tells of n records, from the k-th place on
abbrev pub turns : {R X : Type 0} → (R → X) → R → List R → ℕ → ℕ → ℕ → List X
turns f blank rs head k n = map (in_turn f blank rs head) (range_with_len k n)
