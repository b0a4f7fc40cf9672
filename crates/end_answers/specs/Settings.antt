-- Settings in print. Assumes nothing.
use Rattle.std.specs.Prelude.{ℕ, List, ◌++◌}
use Rattle.packet.specs.Refusals.{Answer, refused, gave}
use Rattle.settings.specs.Printed.{text}
use Rattle.settings.specs.declared.values.Settings.{Settings}
use Rattle.answers.specs.Lines.{end, refusal}

abbrev pub settings_line : Answer Settings → List ℕ
settings_line (refused n) = refusal n
settings_line (gave s) = text s ++ end
