-- What a line prints and leaves, by what it asks for. Assumes nothing.
use Rattle.std.specs.Prelude.{ℕ, List, [], Some, None, Ok, Err, Option, Result}
use Rattle.script_words.specs.declared.fault.Fault.{Fault}
use Rattle.answers.specs.Lines.{wrong}

-- no bytes where nothing is asked
abbrev pub said : {R : Type 0} → (R → List ℕ) → Result (Option R) Fault → List ℕ
said line (Ok None) = []
said line (Ok (Some r)) = line r
said line (Err f) = wrong f

-- a line that is wrong leaves everything as it was
abbrev pub left_by : {R W : Type 0} → (R → W → W) → Result (Option R) Fault → W → W
left_by carried_out (Ok None) w = w
left_by carried_out (Ok (Some r)) w = carried_out r w
left_by carried_out (Err f) w = w
