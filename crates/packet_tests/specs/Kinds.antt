-- The check bytes of the two kinds. Assumes nothing.
use Rattle.std.specs.Prelude.{ℕ, List, ◌++◌}
use Rattle.packet.specs.Checks.{sum_check, xor_check}

abbrev pub pair_check : List ℕ → List ℕ
pair_check xs = sum_check xs ++ xor_check xs

abbrev pub five_check : List ℕ → List ℕ
five_check xs = sum_check xs ++ (xor_check xs ++ (xor_check xs ++ (sum_check xs ++ sum_check xs)))
