-- How a command leaves the media. Assumes nothing.
use Rattle.medium_script.specs.Calls.{Call, make, offer, take, count, holds, Command}
use Rattle.medium_script.specs.declared.call.Name.{Name}
use Rattle.medium_script.specs.declared.call.Name.TheVariants.{M, N}
use Rattle.named_media.specs.Media.{Named, made_by, offered_to, taken_from}

abbrev pub after_call : Call → Named → Named
after_call (make s) n = made_by s n
after_call (offer b) n = offered_to b n
after_call take n = taken_from n
after_call count n = n
after_call holds n = n

abbrev pub after_named : Name → Call → Named × Named → Named × Named
after_named M call w = (after_call call w.0, w.1)
after_named N call w = (w.0, after_call call w.1)

abbrev pub after : Command → Named × Named → Named × Named
after command w = after_named command.name command.call w
