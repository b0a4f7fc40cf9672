-- No end of a line was read, and what is kept stands for what was read.
use Rattle.std.proofs.Common.{◌≡◌, List, ℕ, Some, IfSome}
use Rattle.workbench.proofs.Blanks.{Endless}
use Rattle.workbench.proofs.Fronts.{Kept}
use Rattle.workbench.proofs.lines.take_line.Given as goal

abbrev pub invariant-loop : goal.invariant-loop
invariant-loop g l = Endless l.line.items
    × IfSome (g.R.Read.remaining l.initial.input) (λ script. (rest : List ℕ) × (g.R.Read.remaining l.input ≡ Some rest) × Kept script l.line.items rest)
