-- The lines of a script. Assumes nothing.
use Rattle.std.specs.Prelude.{◌≡◌, ℕ, List, [], ◌∷◌, Some, None, Option, Result, IfOk, cond, ◌==◌}
use Rattle.notation.specs.Words.{without_end}
use Rattle.script.specs.Commands.{Request, command_of}
use Rattle.script_words.specs.declared.fault.Fault.{Fault}
use Rattle.workbench.specs.declared.lines.TooLong.{TooLong}

-- a byte before the first line
abbrev pub joined : ℕ → List (List ℕ) → List (List ℕ)
joined b [] = (b ∷ []) ∷ []
joined b (line ∷ rest) = (b ∷ line) ∷ rest

-- each with its end, the byte 0a, which the last one may lack
abbrev pub lines : List ℕ → List (List ℕ)
lines [] = []
lines (b ∷ bs) = cond (b == 0x0a) ((b ∷ []) ∷ lines bs) (joined b (lines bs))

-- what a line asks for, with or without its end
abbrev pub request_of : List ℕ → Result (Option Request) Fault
request_of line = command_of (without_end line)

-- None is taken at the script's end; else the next line, as one that asks for the same, or an error in its place.
abbrev pub Taken : List ℕ → Option (Result (Unit {0}) TooLong) → List ℕ → Option (List ℕ) → Type 0
Taken script None line left = (script ≡ []) × (left ≡ Some [])
Taken script (Some r) line left =
    (next : List ℕ) × (rest : List ℕ) × (lines script ≡ next ∷ lines rest) × (left ≡ Some rest) × IfOk r (λ _. request_of line ≡ request_of next)
