-- The end of a name. Assumes nothing.
use Rattle.std.specs.Prelude.{Option}
use Rattle.std.specs.Option.{option_map}
use Rattle.script_words.specs.declared.words.Kind.{Kind}
use Rattle.script_words.specs.declared.words.Kind.TheVariants as kind
use Rattle.station.specs.End.{End}
use Rattle.station.specs.Models.{model}
use Rattle.end_bench.specs.declared.named.OpenEnd.{OpenEnd}
use Rattle.end_bench.specs.declared.named.OpenEnd.TheVariants.{Sum, Xor}

-- an end that is open, with its kind
abbrev pub Named : Type 0
Named = Option (Kind × End)

abbrev pub kind_and_end : OpenEnd → Kind × End
kind_and_end (Sum e) = (kind.Sum, model e)
kind_and_end (Xor e) = (kind.Xor, model e)

abbrev pub open_end : Option OpenEnd → Named
open_end e = option_map kind_and_end e
