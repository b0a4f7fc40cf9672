use Rattle.std.proofs.Common.{[], take, ◌∙◌, ap, drop}
use Rattle.packet.specs.Format.{reading}
use Rattle.medium.specs.Bursts.{first}
use Rattle.station.specs.Models.{model}
use Rattle.agreement.specs.Calls.{letter_of}
use Rattle.line.proofs.Reports.{taken, arrived_is, does_same, taken_once}
use Rattle.line.proofs.at_side.arrive.Goals as goal

pub returns : goal.returns
returns g c =
    let bs = g.I.Medium.bursts c.args.into.now in
    let t = c.take-length in
    let burst = taken (first bs) t.new.place _ t.result t.ensures.place t.ensures.value in
    record {
      does = does_same g.K.Check g.O.Medium (model c.args.end.now) [] (drop 1 bs) (ap (λ b. letter_of (reading g.K.Check.LEN g.K.Check.meaning b)) burst)
          (arrived_is g.K.Check.LEN g.K.Check.meaning (model c.args.end.now) bs (take t.result t.new.place) (λ h. c.if-count-eq0.false (c.count.ensures.value ∙ h)) burst)
          c.hear.ensures;
      left = t.ensures.after;
      taken = taken_once g.I.Medium bs _ _ (λ h. c.if-count-eq0.false (c.count.ensures.value ∙ h)) t.ensures.exact;
    }
