-- The ends of a script. Assumes nothing.
use Rattle.std.specs.Prelude.{ℕ, cond, List, Some, None, codes, Option}
use Rattle.std.specs.Str.{bytes_eq}
use Rattle.notation.specs.Numbers.{size}
use Rattle.script_words.specs.declared.words.Kind.{Kind}
use Rattle.end_script.specs.declared.end.Name.{Name}
use Rattle.end_script.specs.declared.end.Name.TheVariants.{A, B}

-- what is asked of an end: an opening on a line of this number, with a kind and a settings frame; a message; a timeout; a
-- burst that arrives; a take into a place of so many bytes; to give back the slip that is kept for a name; an outcome; new
-- settings, by their frame; the state
pub data Call : Type 0 where
  opening : ℕ → Kind → List ℕ → Call
  submit : List ℕ → Call
  timeout : Call
  arrive : List ℕ → Call
  take : ℕ → Call
  give : Name → Call
  collect : Call
  settings : List ℕ → Call
  state : Call

-- a call on the end of a name
pub record Command : Type 0 where
  pub name : Name
  pub call : Call

abbrev pub on : Name → Call → Command
on n k = record { name = n; call = k }

abbrev pub end_name : List ℕ → Option Name
end_name w = cond (bytes_eq w (codes "a")) (Some A) (cond (bytes_eq w (codes "b")) (Some B) None)

-- from 0 to 255
abbrev pub line_number : List ℕ → Option ℕ
line_number w = size 255 w
