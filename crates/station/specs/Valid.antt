-- Messages that can be sent. Assumes nothing.
use Rattle.std.specs.Prelude.{ℕ, Bool, true, ◌&&◌, List, [], ◌∷◌, length}
use Rattle.packet.specs.Letters.{between, each_between}

-- 1 to 96 bytes, each from 20 to 7E
abbrev pub valid : List ℕ → Bool
valid m = between 1 96 (length m) && each_between 0x20 0x7e m

abbrev pub all_valid : List (List ℕ) → Bool
all_valid [] = true
all_valid (m ∷ ms) = valid m && all_valid ms
