-- What the code's commands stand for. Assumes nothing.
use Rattle.end_script.specs.Told as ends
use Rattle.medium_script.specs.Told as media
use Rattle.packet_script.specs.Told as packets
use Rattle.script_words.specs.Told.{bytes_of}
use Rattle.script.specs.LineTold as lines
use Rattle.script.specs.Commands.{Request, packet, settings, end, medium, the_line}
use Rattle.script.specs.declared.command.Command.{Command}
use Rattle.script.specs.declared.command.Command.TheVariants.{Packet, Settings, End, Medium, Line}

abbrev pub request : Command → Request
request (Packet call) = packet (packets.call_of call)
request (Settings frame) = settings (bytes_of frame)
request (End command) = end (ends.command_of command)
request (Medium command) = medium (media.command_of command)
request (Line command) = the_line (lines.command_of command)
