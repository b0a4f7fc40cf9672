-- The number of each outcome, and counts of them in print. Assumes nothing.
use Rattle.std.specs.Prelude.{ℕ, List, ◌++◌, codes, decimal}
use Rattle.primary.specs.declared.outcome.Outcome.{Outcome}
use Rattle.primary.specs.declared.outcome.Outcome.TheVariants.{Arrived, GivenUp, NoConnection}
use Rattle.primary.specs.declared.outcome.Tally.{Tally}

abbrev pub arrived : ℕ
arrived = 1

abbrev pub given_up : ℕ
given_up = 2

abbrev pub no_connection : ℕ
no_connection = 3

abbrev pub outcome_number : Outcome → ℕ
outcome_number Arrived = arrived
outcome_number GivenUp = given_up
outcome_number NoConnection = no_connection

-- `1,0,2`
abbrev pub tally_text : Tally → List ℕ
tally_text t = decimal t.arrived ++ (codes "," ++ (decimal t.given_up ++ (codes "," ++ decimal t.no_connection)))
