-- A line and its words. Assumes nothing.
use Rattle.std.specs.Prelude.{ℕ, Bool, cond, not, List, length, take, drop, Some, None, Option, ◌==◌}
use Rattle.std.specs.List.{prefix_len}

abbrev pub is_space : ℕ → Bool
is_space b = b == 0x20

abbrev pub is_other : ℕ → ℕ → Bool
is_other stop b = not (b == stop)

-- what stands before the first `stop`
abbrev pub before : ℕ → List ℕ → List ℕ
before stop bytes = take (prefix_len (is_other stop) bytes) bytes

-- what follows it, with no bytes where there is none
abbrev pub after : ℕ → List ℕ → List ℕ
after stop bytes = drop 1 (drop (prefix_len (is_other stop) bytes) bytes)

-- a line up to its end, the byte 0a
abbrev pub without_end : List ℕ → List ℕ
without_end line = before 0x0a line

-- the line after its leading spaces
abbrev pub trimmed : List ℕ → List ℕ
trimmed line = drop (prefix_len is_space line) line

-- a line's first word, with no bytes where there is none
abbrev pub word : List ℕ → List ℕ
word line = before 0x20 (trimmed line)

-- the same, or none
abbrev pub first_word : List ℕ → Option (List ℕ)
first_word line = cond (length (word line) == 0) None (Some (word line))

-- what follows that word
abbrev pub left : List ℕ → List ℕ
left line = after 0x20 (trimmed line)
