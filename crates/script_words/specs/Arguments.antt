-- The arguments of a line. Assumes nothing.
use Rattle.std.specs.Prelude.{ℕ, Bool, cond, ◌||◌, List, [], length, drop, Some, None, Ok, Err, codes, Option, Result, ◌==◌, slice_index}
use Rattle.std.specs.Option.{option_map, ok_or}
use Rattle.std.specs.Str.{bytes_eq}
use Rattle.notation.specs.Hex.{unhex}
use Rattle.notation.specs.Numbers.{size_up_to}
use Rattle.notation.specs.Words.{trimmed, word, left}
use Rattle.script_words.specs.declared.words.Kind.{Kind}
use Rattle.script_words.specs.declared.words.Kind.TheVariants.{Sum, Xor}
use Rattle.script_words.specs.declared.fault.Fault.{Fault}
use Rattle.script_words.specs.declared.fault.Fault.TheVariants as fault

abbrev pub is_empty : List ℕ → Bool
is_empty bs = length bs == 0

-- a line of spaces alone, or a comment
abbrev pub is_blank : List ℕ → Bool
is_blank line = is_empty (trimmed line) || slice_index line 0 == 0x23

-- a line that asks for something
abbrev pub asking : List ℕ → Option (List ℕ)
asking line = cond (is_blank line) None (Some line)

infixr 10 ◌then◌
-- a part of a line with what follows it, and then the next part, unless the first is wrong
abbrev pub ◌then◌ : {A B : Type 0} → Result (A × List ℕ) Fault → (A → List ℕ → Result B Fault) → Result B Fault
◌then◌ (Ok p) next = next p.0 p.1
◌then◌ (Err f) next = Err f

-- a word that is due
abbrev pub due : List ℕ → Result (List ℕ × List ℕ) Fault
due line = cond (is_empty (word line)) (Err fault.TooFewWords) (Ok (word line, left line))

-- an argument of one word, by what a word means
abbrev pub argument : {A : Type 0} → (List ℕ → Option A) → Fault → List ℕ → Result (A × List ℕ) Fault
argument meaning f line = due line then λ w rest. ok_or (option_map (λ x. (x, rest)) (meaning w)) f

abbrev pub kind : List ℕ → Option Kind
kind w = cond (bytes_eq w (codes "sum")) (Some Sum) (cond (bytes_eq w (codes "xor")) (Some Xor) None)

-- pairs of hexadecimal digits
abbrev pub pairs : List ℕ → Result (List ℕ × List ℕ) Fault
pairs line = argument unhex fault.Bytes line

-- the same, or all that follows an apostrophe
abbrev pub bytes : List ℕ → Result (List ℕ × List ℕ) Fault
bytes line = cond (slice_index (trimmed line) 0 == 0x27) (Ok (drop 1 (trimmed line), [])) (pairs line)

-- what they leave of the line: nothing after an apostrophe
abbrev pub bytes_left : List ℕ → List ℕ
bytes_left line = cond (slice_index (trimmed line) 0 == 0x27) [] (left line)

-- the size of a place: any number, a larger one than 65536 being taken as 65536; the usual one where it is left out
abbrev pub size_or : ℕ → List ℕ → Result (ℕ × List ℕ) Fault
size_or usual line = cond (is_empty (word line)) (Ok (usual, left line)) (argument (size_up_to 65536) fault.Size line)

-- what a line was read as, unless a word is left over
abbrev pub ended : {A : Type 0} → A → List ℕ → Result A Fault
ended x line = cond (is_empty (word line)) (Ok x) (Err fault.TooManyWords)
