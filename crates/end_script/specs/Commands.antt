-- What a line asks for. Assumes nothing.
use Rattle.std.specs.Prelude.{ℕ, cond, List, Ok, Err, codes, Result}
use Rattle.std.specs.Str.{bytes_eq}
use Rattle.notation.specs.Words.{word, left}
use Rattle.script_words.specs.Arguments.{is_empty, ◌then◌, due, argument, kind, bytes, size_or, ended}
use Rattle.script_words.specs.declared.fault.Fault.{Fault}
use Rattle.script_words.specs.declared.fault.Fault.TheVariants as fault
use Rattle.end_script.specs.declared.end.Name.{Name}
use Rattle.end_script.specs.Calls.{Call, opening, submit, timeout, arrive, take, give, collect, settings, state, Command, on, end_name, line_number}

-- the settings frame of `settings read`
abbrev pub settings_call : List ℕ → Result (List ℕ) Fault
settings_call line =
    due line then λ call rest.
    cond (bytes_eq call (codes "read"))
    (bytes rest then λ frame rest. ended frame rest)
    (Err fault.UnknownCommand)

-- the name of an end; the usual one where it is left out
abbrev pub name_or : Name → List ℕ → Result (Name × List ℕ) Fault
name_or usual line = cond (is_empty (word line)) (Ok (usual, left line)) (argument end_name fault.EndName line)

-- an opening, by the number of the line, a kind and a settings frame
abbrev pub end_open : List ℕ → Result (Call × List ℕ) Fault
end_open line =
    argument line_number fault.Line line then λ number rest.
    argument kind fault.Kind rest then λ k rest.
    bytes rest then λ frame rest.
    Ok (opening number k frame, rest)

-- the call that a word names on the end of a name, with its own arguments: a take is into a place of 96 bytes where the size is
-- left out; the slip given is the one kept for the end's own name where the other is left out
abbrev pub call_after : List ℕ → Name → List ℕ → Result (Call × List ℕ) Fault
call_after w n line =
    cond (bytes_eq w (codes "open")) (end_open line)
    (cond (bytes_eq w (codes "submit")) (bytes line then λ message rest. Ok (submit message, rest))
    (cond (bytes_eq w (codes "timeout")) (Ok (timeout, line))
    (cond (bytes_eq w (codes "arrive")) (bytes line then λ burst rest. Ok (arrive burst, rest))
    (cond (bytes_eq w (codes "take")) (size_or 96 line then λ size rest. Ok (take size, rest))
    (cond (bytes_eq w (codes "give")) (name_or n line then λ from rest. Ok (give from, rest))
    (cond (bytes_eq w (codes "collect")) (Ok (collect, line))
    (cond (bytes_eq w (codes "settings")) (bytes line then λ frame rest. Ok (settings frame, rest))
    (cond (bytes_eq w (codes "state")) (Ok (state, line))
    (Err fault.UnknownCommand)))))))))

-- the rest of a line that begins `end`
abbrev pub end_call : List ℕ → Result Command Fault
end_call line =
    argument end_name fault.EndName line then λ n rest.
    due rest then λ word rest.
    call_after word n rest then λ call rest.
    ended (on n call) rest
