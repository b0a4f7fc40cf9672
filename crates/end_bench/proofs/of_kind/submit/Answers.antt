use Rattle.std.proofs.Common.{[], ◌∙◌}
use Rattle.std.proofs.lemmas.Result.{IfOk-weaker}
use Rattle.packet.specs.Refusals.{answer}
use Rattle.station.specs.End.{submission}
use Rattle.station.specs.Models.{model}
use Rattle.station.specs.Reports.{told}
use Rattle.end_bench.proofs.Placed.{placed_line}
use Rattle.end_bench.proofs.of_kind.submit.Goals as goal

pub returns-clause-printed : goal.returns-clause-printed
returns-clause-printed g c =
    let e = c.submit-result.ensures in
    IfOk-weaker c.reported.result _ _ (λ s h. h ∙ placed_line g.K.Check.meaning [] (submission (model c.args.end.now) c.args.message.now) (answer told c.submit-result.result) _ _ e.value e.placed) c.reported.ensures
