-- What is answered from here on, with what was answered so far, is answered from the start.
use Rattle.std.proofs.Common.{◌≡◌, ℕ, List, Option, Some, IfSome}
use Rattle.std.specs.Io.Buffered.{reader_remaining, writer_contents}
use Rattle.bench.specs.Runs.{Bench}
use Rattle.bench.specs.Told.{bench_of}
use Rattle.workbench.specs.Answers.{Written}
use Rattle.workbench.specs.Lines.{lines}
use Rattle.workbench.proofs.answering.answer_lines.Given as goal

abbrev pub invariant-loop : goal.invariant-loop
invariant-loop g l = IfSome (reader_remaining g.R.Read.remaining l.initial.input) (λ script. (rest : List ℕ) × (reader_remaining g.R.Read.remaining l.input ≡ Some rest)
    × ((new : Option (List ℕ)) (v : Bench) → Written (bench_of l.bench) (lines rest) (writer_contents g.W.Write.contents l.output) new v
    → Written (bench_of l.initial.bench) (lines script) (writer_contents g.W.Write.contents l.initial.output) new v))
