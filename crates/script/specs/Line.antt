-- What is asked of the line of a script. Assumes nothing.
use Rattle.std.specs.Prelude.{ℕ, cond, List, Some, Ok, Err, codes, Option, Result}
use Rattle.std.specs.Str.{bytes_eq}
use Rattle.notation.specs.Numbers.{size}
use Rattle.script_words.specs.Arguments.{◌then◌, due, argument, kind, pairs, bytes, size_or, ended}
use Rattle.script_words.specs.declared.fault.Fault.{Fault}
use Rattle.script_words.specs.declared.fault.Fault.TheVariants as fault
use Rattle.script_words.specs.declared.words.Kind.{Kind}
use Rattle.medium_script.specs.Specs.{spec}
use Rattle.medium_script.specs.declared.spec.Spec.{Spec}

-- what is asked at a side: a message; a timeout; an arrival; a read-out into a place of so many bytes; an outcome; new
-- settings, by their frame; the state
pub data Call : Type 0 where
  submit : List ℕ → Call
  timeout : Call
  arrive : Call
  read : ℕ → Call
  collect : Call
  settings : List ℕ → Call
  state : Call

-- an opening by a kind, the settings frames of west and of east, and the media eastward and westward; or a call at the side of
-- a number
pub data Command : Type 0 where
  opening : Kind → List ℕ → List ℕ → Spec → Spec → Command
  at : ℕ → Call → Command

-- west is 0 and east is 1; other numbers up to 255 are there to be refused
abbrev pub side : List ℕ → Option ℕ
side w = cond (bytes_eq w (codes "west")) (Some 0) (cond (bytes_eq w (codes "east")) (Some 1) (size 255 w))

abbrev pub side_in : List ℕ → Result (ℕ × List ℕ) Fault
side_in line = argument side fault.Side line

abbrev pub line_open : List ℕ → Result (Command × List ℕ) Fault
line_open line =
    argument kind fault.Kind line then λ k rest.
    pairs rest then λ west rest.
    pairs rest then λ east rest.
    argument spec fault.Spec rest then λ eastward rest.
    argument spec fault.Spec rest then λ westward rest.
    Ok (opening k west east eastward westward, rest)

-- what a word names, with its own arguments: a read-out is into a place of 96 bytes where the size is left out
abbrev pub command_after : List ℕ → List ℕ → Result (Command × List ℕ) Fault
command_after w line =
    cond (bytes_eq w (codes "open")) (line_open line)
    (cond (bytes_eq w (codes "submit")) (side_in line then λ s rest. bytes rest then λ message rest. Ok (at s (submit message), rest))
    (cond (bytes_eq w (codes "timeout")) (side_in line then λ s rest. Ok (at s timeout, rest))
    (cond (bytes_eq w (codes "arrive")) (side_in line then λ s rest. Ok (at s arrive, rest))
    (cond (bytes_eq w (codes "read")) (side_in line then λ s rest. size_or 96 rest then λ size rest. Ok (at s (read size), rest))
    (cond (bytes_eq w (codes "collect")) (side_in line then λ s rest. Ok (at s collect, rest))
    (cond (bytes_eq w (codes "settings")) (side_in line then λ s rest. bytes rest then λ frame rest. Ok (at s (settings frame), rest))
    (cond (bytes_eq w (codes "state")) (side_in line then λ s rest. Ok (at s state, rest))
    (Err fault.UnknownCommand))))))))

-- the rest of a line that begins `line`
abbrev pub line_call : List ℕ → Result Command Fault
line_call line =
    due line then λ word rest.
    command_after word rest then λ command rest.
    ended command rest
