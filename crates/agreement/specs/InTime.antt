-- How long a message can be without outcome.
use Rattle.std.specs.Prelude.{◌+◌, ◌*◌, ◌<◌, List, [], ◌∷◌}
use Rattle.agreement.specs.Transcript.{Accepted}

-- a message without outcome that was accepted behind k under the attempt limit M has seen fewer than (k + 1) * (M + 1) timeouts
abbrev pub InTime : List Accepted → Type 0
InTime [] = Unit {0}
InTime (e ∷ es) = (e.timeouts < (e.behind + 1) * (e.limit + 1)) × InTime es
