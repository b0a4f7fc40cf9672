-- What the code's line stands for. Assumes nothing.
use Rattle.std.specs.Prelude.{ℕ, List}
use Rattle.std.specs.Option.{option_map}
use Rattle.packet.specs.Refusals.{Answer}
use Rattle.agreement.specs.Opening.{opening}
use Rattle.packet.specs.declared.checks.Check as check
use Rattle.script_words.specs.declared.words.Kind.{Kind}
use Rattle.script_words.specs.declared.words.Kind.TheVariants as kind
use Rattle.station.specs.End.{End, Done}
use Rattle.station.specs.Models.{model}
use Rattle.named_media.specs.Chosen.{carrier, memory, bursts}
use Rattle.named_media.specs.declared.chosen.ChosenMedium.{ChosenMedium}
use Rattle.line.specs.declared.opened.Line as code
use Rattle.bench.specs.Joined.{Medium, Open, Joined, open_over}
use Rattle.bench.specs.declared.joined.JoinedLine.{JoinedLine}
use Rattle.bench.specs.declared.joined.OpenLine.{OpenLine}
use Rattle.bench.specs.declared.joined.OpenLine.TheVariants.{Sum, Xor}
use Rattle.bench.specs.declared.joined.LineMedia.{LineMedia}

abbrev pub medium_of : ChosenMedium → Medium
medium_of m = record { carrier = carrier m; memory = memory m }

abbrev pub open_of : {K : Type 0} {k : check.Ghosts K} → code.Line K k → LineMedia → Open
open_of l media = open_over (model l.west) (model l.east) (medium_of media.eastward) (medium_of media.westward)

abbrev pub ends_of : {K : Type 0} {k : check.Ghosts K} → code.Line K k → End × End
ends_of l = (model l.west, model l.east)

-- an opening over these media
abbrev pub opening_over : List ℕ → List ℕ → LineMedia → Answer (Done × Done)
opening_over w e media = opening w e (bursts media.eastward) (bursts media.westward)

abbrev pub kind_and_ends : OpenLine → Kind × End × End
kind_and_ends (Sum l) = (kind.Sum, model l.west, model l.east)
kind_and_ends (Xor l) = (kind.Xor, model l.west, model l.east)

abbrev pub joined_of : JoinedLine → Joined
joined_of j = record { ends = option_map kind_and_ends j.line; eastward = medium_of j.media.eastward; westward = medium_of j.media.westward }
