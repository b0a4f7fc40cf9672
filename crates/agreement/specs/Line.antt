-- An opened line: two ends and the bursts under way between them.
use Rattle.std.specs.Prelude.{ℕ, cond, List, ◌==◌}
use Rattle.packet.specs.Refusals.{Answer, refused, gave}
use Rattle.station.specs.End.{End}
use Rattle.agreement.specs.declared.sides.Side.{Side}
use Rattle.agreement.specs.declared.sides.Side.TheVariants.{West, East}

abbrev pub Burst : Type 0
Burst = List ℕ

abbrev pub across : Side → Side
across West = East
across East = West

-- a side's number is its end's line number
abbrev pub side_number : Side → ℕ
side_number West = 0
side_number East = 1

-- the side of a number
abbrev pub side_answer : ℕ → Answer Side
side_answer n = cond (n == 0) (gave West) (cond (n == 1) (gave East) (refused 25))

-- Each list of bursts is oldest first.
pub record Line : Type 0 where
  pub west_end : End
  pub east_end : End
  -- from west to east
  pub eastward : List Burst
  -- from east to west
  pub westward : List Burst

abbrev pub end_at : Side → Line → End
end_at West l = l.west_end
end_at East l = l.east_end

-- the bursts under way from a side; those toward it are the ones from the side across
abbrev pub out_of : Side → Line → List Burst
out_of West l = l.eastward
out_of East l = l.westward
