-- The check of a kind that a line names. Assumes nothing.
use Rattle.std.specs.Prelude.{ℕ, List}
use Rattle.packet.specs.Checks.{sum_check, xor_check}
use Rattle.script_words.specs.declared.words.Kind.{Kind}
use Rattle.script_words.specs.declared.words.Kind.TheVariants.{Sum, Xor}

-- both kinds have one check byte
abbrev pub check : Kind → List ℕ → List ℕ
check Sum = sum_check
check Xor = xor_check
