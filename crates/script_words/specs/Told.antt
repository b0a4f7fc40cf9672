-- What the code's answers stand for. Assumes nothing.
use Rattle.std.specs.Prelude.{ℕ, List, Ok, Err, Result}
use Rattle.notation.specs.Hex.{decoded}
use Rattle.script_words.specs.declared.words.Bytes.{Bytes}
use Rattle.script_words.specs.declared.words.Bytes.TheVariants.{Pairs, Text}
use Rattle.script_words.specs.declared.fault.Fault.{Fault}

-- what was read of a line, as `view` sees it, with what is left of the line
abbrev pub told : {A B : Type 0} → (A → B) → Result A Fault → List ℕ → Result (B × List ℕ) Fault
told view (Ok x) rest = Ok (view x, rest)
told view (Err f) rest = Err f

-- what a whole line was read as, as `view` sees it
abbrev pub asked : {A B : Type 0} → (A → B) → Result A Fault → Result B Fault
asked view (Ok x) = Ok (view x)
asked view (Err f) = Err f

abbrev pub bytes_of : Bytes → List ℕ
bytes_of (Pairs w) = decoded w.now
bytes_of (Text t) = t.now
