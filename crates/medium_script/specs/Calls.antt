-- What is asked of the media of a script. Assumes nothing.
use Rattle.std.specs.Prelude.{ℕ, cond, List, Some, None, Ok, Err, codes, Option, Result}
use Rattle.std.specs.Str.{bytes_eq}
use Rattle.script_words.specs.declared.fault.Fault.{Fault}
use Rattle.script_words.specs.declared.fault.Fault.TheVariants as fault
use Rattle.script_words.specs.Arguments.{◌then◌, due, argument, bytes, ended}
use Rattle.medium_script.specs.declared.call.Name.{Name}
use Rattle.medium_script.specs.declared.call.Name.TheVariants.{M, N}
use Rattle.medium_script.specs.declared.spec.Spec.{Spec}
use Rattle.medium_script.specs.Specs.{spec}

-- what is asked of a medium
pub data Call : Type 0 where
  make : Spec → Call
  offer : List ℕ → Call
  take : Call
  count : Call
  holds : Call

pub record Command : Type 0 where
  pub name : Name
  pub call : Call

abbrev pub of_medium : Name → Call → Command
of_medium n c = record { name = n; call = c }

abbrev pub name : List ℕ → Option Name
name w = cond (bytes_eq w (codes "m")) (Some M) (cond (bytes_eq w (codes "n")) (Some N) None)

-- the call that a word names, with its own argument
abbrev pub call_after : List ℕ → List ℕ → Result (Call × List ℕ) Fault
call_after word line =
    cond (bytes_eq word (codes "make")) (argument spec fault.Spec line then λ s rest. Ok (make s, rest))
    (cond (bytes_eq word (codes "offer")) (bytes line then λ burst rest. Ok (offer burst, rest))
    (cond (bytes_eq word (codes "take")) (Ok (take, line))
    (cond (bytes_eq word (codes "count")) (Ok (count, line))
    (cond (bytes_eq word (codes "holds")) (Ok (holds, line))
    (Err fault.UnknownCommand)))))

abbrev pub medium_call : List ℕ → Result Command Fault
medium_call line =
    argument name fault.MediumName line then λ n rest.
    due rest then λ word rest.
    call_after word rest then λ call rest.
    ended (of_medium n call) rest
