use Rattle.std.proofs.Common.{rules, [], ap, ◌∙◌}
use Rattle.std.specs.Option.{option_map}
use Rattle.packet.specs.Bytes.{byte_of}
use Rattle.packet.specs.Format.{reading}
use Rattle.station.specs.End.{arrival}
use Rattle.station.specs.Models.{model}
use Rattle.agreement.specs.Calls.{letter_of}
use Rattle.line.proofs.Reports.{reports, refuses, letter_heard}
use Rattle.line.proofs.at_side.hear.Goals as goal

pub returns-in_err-report : goal.returns-in_err-report
returns-in_err-report g c =
    let letter = letter_of (reading g.K.Check.LEN g.K.Check.meaning c.args.burst.now) in
    let a = arrival g.K.Check.LEN g.K.Check.meaning (model c.args.end.now) c.args.burst.now in
    let does = refuses g.K.Check g.O.Medium letter [] c.args.end.now c.arrive.new.self c.args.out.now c.args.place.now c.arrive.new.place a _ c.in_err-report.ensures.value c.in_err-report.ensures.unchanged c.in_err-report.ensures.placed in
    search (rules, does)

pub returns : goal.returns
returns g c =
    let a = arrival g.K.Check.LEN g.K.Check.meaning (model c.args.end.now) c.args.burst.now in
    reports g.K.Check g.O.Medium _ [] c.args.end.now c.arrive.new.self c.args.out.now c.pass_on.new.out c.args.place.now c.arrive.new.place a c.in_ok-report.report c.pass_on.result
    c.in_ok-report.ensures.value c.in_ok-report.ensures.after c.in_ok-report.ensures.placed c.pass_on.ensures.end
    (ap (option_map byte_of) c.pass_on.ensures.heard ∙ c.letter_of.ensures ∙ letter_heard g.K.Check.LEN g.K.Check.meaning (model c.args.end.now) c.args.burst.now _ c.in_ok-report.ensures.value)
    c.pass_on.ensures.offered c.pass_on.ensures.once
