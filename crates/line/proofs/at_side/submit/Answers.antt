use Rattle.std.proofs.Common.{rules, None, refl}
use Rattle.station.specs.End.{submission}
use Rattle.station.specs.Models.{model}
use Rattle.line.proofs.Reports.{reports, refuses}
use Rattle.line.proofs.at_side.submit.Goals as goal

pub returns-in_err-report : goal.returns-in_err-report
returns-in_err-report g c =
    let a = submission (model c.args.end.now) c.args.message.now in
    let does = refuses g.K.Check g.O.Medium None (g.I.Medium.bursts c.args._into.now) c.args.end.now c.submit.new.self c.args.out.now c.args.place.now c.submit.new.place a _ c.in_err-report.ensures.value c.in_err-report.ensures.unchanged c.in_err-report.ensures.placed in
    record { does = search (rules, does); left = refl; taken = refl }

pub returns : goal.returns
returns g c =
    let a = submission (model c.args.end.now) c.args.message.now in
    record {
      does = reports g.K.Check g.O.Medium None (g.I.Medium.bursts c.args._into.now) c.args.end.now c.submit.new.self c.args.out.now c.pass_on.new.out c.args.place.now c.submit.new.place a c.in_ok-report.report c.pass_on.result
          c.in_ok-report.ensures.value c.in_ok-report.ensures.after c.in_ok-report.ensures.placed c.pass_on.ensures.end (search rules) c.pass_on.ensures.offered c.pass_on.ensures.once;
      left = refl;
      taken = refl;
    }
