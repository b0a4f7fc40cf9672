-- What the code's calls stand for. Assumes nothing.
use Rattle.script_words.specs.Told.{bytes_of}
use Rattle.medium_script.specs.Calls.{Call, make, offer, take, count, holds, Command, of_medium}
use Rattle.medium_script.specs.declared.call.MediumCall.{MediumCall}
use Rattle.medium_script.specs.declared.call.MediumCall.TheVariants.{Make, Offer, Take, Count, Holds}
use Rattle.medium_script.specs.declared.call.MediumCommand.{MediumCommand}

abbrev pub call_of : MediumCall → Call
call_of (Make spec) = make spec
call_of (Offer burst) = offer (bytes_of burst)
call_of Take = take
call_of Count = count
call_of Holds = holds

abbrev pub command_of : MediumCommand → Command
command_of c = of_medium c.name (call_of c.call)
