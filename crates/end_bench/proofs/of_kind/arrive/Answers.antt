use Rattle.std.proofs.Common.{[], ◌∙◌}
use Rattle.std.proofs.lemmas.Result.{IfOk-weaker}
use Rattle.packet.specs.Refusals.{answer}
use Rattle.station.specs.End.{arrival}
use Rattle.station.specs.Models.{model}
use Rattle.station.specs.Reports.{told}
use Rattle.end_bench.proofs.Placed.{placed_line}
use Rattle.end_bench.proofs.of_kind.arrive.Goals as goal

pub returns-clause-printed : goal.returns-clause-printed
returns-clause-printed g c =
    let e = c.arrive-result.ensures in
    IfOk-weaker c.reported.result _ _ (λ s h. h ∙ placed_line g.K.Check.meaning [] (arrival g.K.Check.LEN g.K.Check.meaning (model c.args.end.now) c.args.burst.now) (answer told c.arrive-result.result) _ _ e.value e.placed) c.reported.ensures
