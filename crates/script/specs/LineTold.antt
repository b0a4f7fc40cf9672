-- What the code's commands on a line stand for. Assumes nothing.
use Rattle.script_words.specs.Told.{bytes_of}
use Rattle.script.specs.Line.{Call, submit, timeout, arrive, read, collect, settings, state, Command, opening, at}
use Rattle.script.specs.declared.line.LineCall.{LineCall}
use Rattle.script.specs.declared.line.LineCall.TheVariants as code
use Rattle.script.specs.declared.line.LineCommand.{LineCommand}
use Rattle.script.specs.declared.line.LineCommand.TheVariants.{Open, At}

abbrev pub call_of : LineCall → Call
call_of (code.Submit message) = submit (bytes_of message)
call_of code.Timeout = timeout
call_of code.Arrive = arrive
call_of (code.Read size) = read size
call_of code.Collect = collect
call_of (code.Settings frame) = settings (bytes_of frame)
call_of code.State = state

abbrev pub command_of : LineCommand → Command
command_of (Open kind west east eastward westward) = opening kind (bytes_of west) (bytes_of east) eastward westward
command_of (At side call) = at side (call_of call)
