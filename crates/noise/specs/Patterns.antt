-- Patterns of 32 bits, as numbers. Assumes nothing.
use Rattle.std.specs.Prelude.{ℕ, ◌+◌, ◌*◌, ◌/◌, ◌%◌, ◌^◌, Bool, ◌==◌}

-- the lowest bit is 1
abbrev pub low : ℕ → Bool
low p = p % 2 == 1

-- turned left by one bit: each bit moves up, and the highest becomes the lowest
abbrev pub turned : ℕ → ℕ
turned p = p * 2 % 2 ^ 32 + p / 2 ^ 31
