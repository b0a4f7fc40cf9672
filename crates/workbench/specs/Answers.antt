-- The answers to a script. Assumes nothing.
use Rattle.std.specs.Prelude.{◌≡◌, ◌⊎◌, ℕ, Bool, true, false, List, [], ◌∷◌, ◌++◌, Some, Option, ◌==◌}
use Rattle.std.specs.Io.Buffered.{reader_buffer, writer_buffer}
use Rattle.std.specs.Io.KnownBytes.{Appends}
use Rattle.std.specs.List.{list_any}
use Rattle.std.specs.declared.io.buffered.BufReader.{BufReader}
use Rattle.std.specs.declared.io.buffered.BufWriter.{BufWriter}
use Rattle.answers.specs.Lines.{out_of_memory}
use Rattle.bench.specs.Runs.{Bench, printed, after}
use Rattle.workbench.specs.Lines.{lines}

-- Where no whole line is at hand, so that the program waits for more input, no answer waits to be written.
abbrev pub Shown : {R W A B : Type 0} → BufReader R A → BufWriter W B → Type 0
Shown input output = list_any (λ b. b == 0x0a) (reader_buffer input) ≡ false → writer_buffer output ≡ []

-- A line is answered and carried out. Where memory is wanting for it, it may or may not have been carried out.
abbrev pub Answered : Bench → List ℕ → List ℕ → Bench → Type 0
Answered w line said v =
    ((said ≡ printed w line) × (v ≡ after line w)) ⊎ ((said ≡ out_of_memory) × ((v ≡ w) ⊎ (v ≡ after line w)))

-- each line in order, by the bench as it stands at that line
abbrev pub Answers : Bench → List (List ℕ) → List ℕ → Bench → Type 0
Answers w [] written v = (written ≡ []) × (v ≡ w)
Answers w (line ∷ rest) written v =
    (said : List ℕ) × (later : List ℕ) × (u : Bench) × (written ≡ said ++ later) × Answered w line said u × Answers u rest later v

-- known bytes of an output grow by the answers
abbrev pub Written : Bench → List (List ℕ) → Option (List ℕ) → Option (List ℕ) → Bench → Type 0
Written w lines old new v = (written : List ℕ) × Answers w lines written v × Appends old new written

-- One line of a script is answered, and what follows it is left; at the script's end nothing is done.
abbrev pub Stepped : Bool → Bench → List ℕ → Option (List ℕ) → Option (List ℕ) → Option (List ℕ) → Bench → Type 0
Stepped false w script left old new v = (script ≡ []) × (left ≡ Some []) × (new ≡ old) × (v ≡ w)
Stepped true w script left old new v =
    (line : List ℕ) × (rest : List ℕ) × (said : List ℕ) × (lines script ≡ line ∷ lines rest) × (left ≡ Some rest) × Answered w line said v × Appends old new said
