-- What a line asks for that begins `packet`. Assumes nothing.
use Rattle.std.specs.Prelude.{ℕ, cond, ◌&&◌, List, length, Some, None, Err, codes, Option, Result, ◌==◌, slice_index}
use Rattle.std.specs.Str.{bytes_eq}
use Rattle.notation.specs.Hex.{are_pairs, byte}
use Rattle.script_words.specs.declared.words.Kind.{Kind}
use Rattle.script_words.specs.declared.fault.Fault.{Fault}
use Rattle.script_words.specs.declared.fault.Fault.TheVariants as fault
use Rattle.script_words.specs.Arguments.{◌then◌, due, argument, kind, bytes, size_or, ended}

-- to read a burst by a kind; to write a packet by a kind, with a letter and a field, into a place of so many bytes
pub data Call : Type 0 where
  read : Kind → List ℕ → Call
  write : Kind → ℕ → List ℕ → ℕ → Call

-- one pair of hexadecimal digits
abbrev pub letter : List ℕ → Option ℕ
letter w = cond (length w == 2 && are_pairs w) (Some (byte (slice_index w 0) (slice_index w 1))) None

abbrev pub read_call : List ℕ → Result Call Fault
read_call line =
    argument kind fault.Kind line then λ k rest.
    bytes rest then λ burst rest.
    ended (read k burst) rest

abbrev pub write_call : List ℕ → Result Call Fault
write_call line =
    argument kind fault.Kind line then λ k rest.
    argument letter fault.Letter rest then λ l rest.
    bytes rest then λ field rest.
    size_or 104 rest then λ n rest.
    ended (write k l field n) rest

abbrev pub packet_call : List ℕ → Result Call Fault
packet_call line =
    due line then λ call rest.
    cond (bytes_eq call (codes "read")) (read_call rest)
    (cond (bytes_eq call (codes "write")) (write_call rest)
    (Err fault.UnknownCommand))
