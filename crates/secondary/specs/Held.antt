-- The delivery that is out is one of those held. Assumes nothing.
use Rattle.std.specs.Prelude.{ℕ, Bool, cond}

-- how many deliveries are out
abbrev pub count_out : Bool → ℕ
count_out out = cond out 1 0
