-- What a line asks for. Assumes nothing.
use Rattle.std.specs.Prelude.{ℕ, cond, List, Some, None, Ok, Err, codes, Option, Result}
use Rattle.std.specs.Str.{bytes_eq}
use Rattle.script_words.specs.Arguments.{◌then◌, is_blank, due}
use Rattle.script_words.specs.Told.{asked}
use Rattle.script_words.specs.declared.fault.Fault.{Fault}
use Rattle.script_words.specs.declared.fault.Fault.TheVariants.{UnknownCommand}
use Rattle.end_script.specs.Calls as ends
use Rattle.end_script.specs.Commands.{end_call, settings_call}
use Rattle.medium_script.specs.Calls as media
use Rattle.packet_script.specs.Calls as packets
use Rattle.script.specs.Line as lines

pub data Request : Type 0 where
  packet : packets.Call → Request
  settings : List ℕ → Request
  end : ends.Command → Request
  medium : media.Command → Request
  the_line : lines.Command → Request

-- by the word that names the subject
abbrev pub call_after : List ℕ → List ℕ → Result Request Fault
call_after subject rest =
    cond (bytes_eq subject (codes "packet")) (asked packet (packets.packet_call rest))
    (cond (bytes_eq subject (codes "medium")) (asked medium (media.medium_call rest))
    (cond (bytes_eq subject (codes "settings")) (asked settings (settings_call rest))
    (cond (bytes_eq subject (codes "end")) (asked end (end_call rest))
    (cond (bytes_eq subject (codes "line")) (asked the_line (lines.line_call rest))
    (Err UnknownCommand)))))

-- what a line asks for, if it asks for anything
abbrev pub command_of : List ℕ → Result (Option Request) Fault
command_of line =
    cond (is_blank line) (Ok None)
    (due line then λ subject rest. asked Some (call_after subject rest))
