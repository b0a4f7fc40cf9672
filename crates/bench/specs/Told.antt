-- What the code's workbench stands for. Assumes nothing.
use Rattle.bench.specs.LineModels.{joined_of}
use Rattle.bench.specs.Runs.{Bench}
use Rattle.bench.specs.declared.run.Workbench.{Workbench}
use Rattle.end_bench.specs.Models as ends
use Rattle.named_media.specs.Model.{models}

abbrev pub bench_of : Workbench → Bench
bench_of w = record { ends = ends.model w.ends; media = models w.media; joined = joined_of w.joined }
