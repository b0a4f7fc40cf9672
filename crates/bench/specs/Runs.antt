-- What is printed for a line, and what it leaves. Assumes nothing.
use Rattle.std.specs.Prelude.{ℕ, List}
use Rattle.answers.specs.Asked.{said, left_by}
use Rattle.end_answers.specs.Settings.{settings_line}
use Rattle.end_bench.specs.Bench as ends
use Rattle.medium_bench.specs.Leaving as media
use Rattle.medium_bench.specs.Printed as media_lines
use Rattle.named_media.specs.Media.{Named}
use Rattle.notation.specs.Words.{without_end}
use Rattle.packet_bench.specs.Printed as packet_lines
use Rattle.script.specs.Commands.{Request, packet, settings, end, medium, the_line, command_of}
use Rattle.settings.specs.Frame.{settings_of}
use Rattle.bench.specs.Joined.{Joined}
use Rattle.bench.specs.LineRuns as joined

-- what is kept from line to line: the ends of the names a and b with their slips, the media of the names m and n, and the line
pub record Bench : Type 0 where
  pub ends : ends.Bench
  pub media : Named × Named
  pub joined : Joined

abbrev pub answered : Bench → Request → List ℕ
answered w (packet call) = packet_lines.printed call
answered w (settings frame) = settings_line (settings_of frame)
answered w (end command) = ends.printed w.ends command
answered w (medium command) = media_lines.printed w.media command
answered w (the_line command) = joined.printed w.joined command

abbrev pub carried_out : Request → Bench → Bench
carried_out (packet call) w = w
carried_out (settings frame) w = w
carried_out (end command) w = record { ends = ends.after w.ends command; media = w.media; joined = w.joined }
carried_out (medium command) w = record { ends = w.ends; media = media.after command w.media; joined = w.joined }
carried_out (the_line command) w = record { ends = w.ends; media = w.media; joined = joined.after command w.joined }

-- of a line, with or without its end
abbrev pub printed : Bench → List ℕ → List ℕ
printed w line = said (answered w) (command_of (without_end line))

abbrev pub after : List ℕ → Bench → Bench
after line w = left_by carried_out (command_of (without_end line)) w
