-- Which classes of letters are under way. Assumes nothing.
use Rattle.std.specs.Prelude.{ℕ, Bool, cond, List, ◌++◌, codes}
use Rattle.medium.specs.Bursts.{some_letter}
use Rattle.medium.specs.Letters.{command, answer}
use Rattle.named_media.specs.declared.holds.Holds.{Holds}

abbrev pub holding : List (List ℕ) → Holds
holding bs = record { commands = some_letter command bs; answers = some_letter answer bs }

-- `true` or `false`
abbrev pub truth : Bool → List ℕ
truth b = cond b (codes "true") (codes "false")

-- `commands=true answers=false`
abbrev pub holds_text : Holds → List ℕ
holds_text h = codes "commands=" ++ (truth h.commands ++ (codes " answers=" ++ truth h.answers))
