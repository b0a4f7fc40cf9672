-- Lines that are printed. Assumes nothing.
use Rattle.std.specs.Prelude.{ℕ, List, [], ◌∷◌, ◌++◌, length, Some, None, codes, decimal, Option}
use Rattle.notation.specs.Hex.{hex}
use Rattle.script_words.specs.Faults.{text}
use Rattle.script_words.specs.declared.fault.Fault.{Fault}

-- a line's end
abbrev pub end : List ℕ
end = 0x0a ∷ []

-- `refused 7`
abbrev pub refusal : ℕ → List ℕ
refusal n = codes "refused " ++ (decimal n ++ end)

-- `length=4 burst=024503C8`
abbrev pub burst_text : List ℕ → List ℕ
burst_text b = codes "length=" ++ (decimal (length b) ++ (codes " burst=" ++ hex b))

abbrev pub burst_line : List ℕ → List ℕ
burst_line b = burst_text b ++ end

-- a value, or none
abbrev pub or_none : {A : Type 0} → (A → Option (List ℕ)) → Option A → Option (List ℕ)
or_none text (Some x) = text x
or_none text None = Some (codes "none")

abbrev pub text_or_none : {A : Type 0} → (A → List ℕ) → Option A → List ℕ
text_or_none text (Some x) = text x
text_or_none text None = codes "none"

-- a line that is not carried out
abbrev pub wrong : Fault → List ℕ
wrong f = codes "error: " ++ (text f ++ end)

-- what is printed where the machine has no memory for a line
abbrev pub out_of_memory : List ℕ
out_of_memory = codes "error: out of memory" ++ end
