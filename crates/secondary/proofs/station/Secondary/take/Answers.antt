use Rattle.std.proofs.Common.{sym, refl}
use Rattle.secondary.specs.Station.{model, lent}
use Rattle.secondary.proofs.Outs.{stays_out}
use Rattle.secondary.proofs.Turns.{held_fits}
use Rattle.secondary.proofs.station.Secondary.take.Goals as goal

pub returns-clause-out : goal.returns-clause-out
returns-clause-out c =
    let s = model c.args.self.now in
    stays_out s.line c.oldest.result (lent s) (record { out = refl; line_is = refl; buffer_is = sym c.oldest.ensures; room = held_fits c.args.self.now })
