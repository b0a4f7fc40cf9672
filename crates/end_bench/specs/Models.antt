-- What the code's ends stand for. Assumes nothing.
use Rattle.end_bench.specs.declared.ends.Ends.{Ends}
use Rattle.end_bench.specs.Bench.{Bench}
use Rattle.end_bench.specs.Fair.{kept}
use Rattle.end_bench.specs.Named.{open_end}

abbrev pub model : Ends → Bench
model e = record { a = open_end e.a; b = open_end e.b; a_slip = kept e.a_slip; b_slip = kept e.b_slip }
