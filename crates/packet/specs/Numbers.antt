-- A message's number as a truth value: 0 is false, 1 is true. Assumes nothing.
use Rattle.std.specs.Prelude.{ℕ, Bool, true, false, cond}
use Rattle.packet.specs.declared.number.Number.{Number}
use Rattle.packet.specs.declared.number.Number.TheVariants.{Zero, One}

abbrev pub is_one : Number → Bool
is_one Zero = false
is_one One = true

-- the number as a number
abbrev pub digit_of : Number → ℕ
digit_of n = cond (is_one n) 1 0
