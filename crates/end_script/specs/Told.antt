-- What the code's commands stand for. Assumes nothing.
use Rattle.script_words.specs.Told.{bytes_of}
use Rattle.end_script.specs.Calls.{Call, opening, submit, timeout, arrive, take, give, collect, settings, state, Command, on}
use Rattle.end_script.specs.declared.end.EndCall.{EndCall}
use Rattle.end_script.specs.declared.end.EndCall.TheVariants.{Open, Submit, Timeout, Arrive, Take, Give, Collect, Settings, State}
use Rattle.end_script.specs.declared.end.EndCommand.{EndCommand}

abbrev pub call_of : EndCall → Call
call_of (Open line kind frame) = opening line kind (bytes_of frame)
call_of (Submit message) = submit (bytes_of message)
call_of Timeout = timeout
call_of (Arrive burst) = arrive (bytes_of burst)
call_of (Take size) = take size
call_of (Give from) = give from
call_of Collect = collect
call_of (Settings frame) = settings (bytes_of frame)
call_of State = state

abbrev pub command_of : EndCommand → Command
command_of c = on c.name (call_of c.call)
