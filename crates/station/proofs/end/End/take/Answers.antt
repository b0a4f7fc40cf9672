use Rattle.std.proofs.lemmas.Result.{IfOk-weaker}
use Rattle.secondary.specs.Laws as deliveries
use Rattle.secondary.specs.Station as secondary
use Rattle.station.specs.End.{with_secondary}
use Rattle.station.specs.Models.{model}
use Rattle.station.specs.Runs.{StaysOut}
use Rattle.station.proofs.Orders.{stays_out}
use Rattle.station.proofs.end.End.take.Goals as goal

pub returns-clause-out : goal.returns-clause-out
returns-clause-out g c =
    let e = with_secondary (secondary.model c.take.new.self) (model c.args.self.now) in
    IfOk-weaker c.take.result
    (λ x. deliveries.StaysOut x.1.line x.1.buffer (secondary.model c.take.new.self))
    (λ x. StaysOut g.K.Check.LEN g.K.Check.meaning x.1.line x.1.buffer e)
    (λ x. stays_out g.K.Check.LEN g.K.Check.meaning x.1.line x.1.buffer e) c.take.ensures.out
