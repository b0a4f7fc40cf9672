use Rattle.std.proofs.Common.{refl, ◌∙◌}
use Rattle.std.proofs.lemmas.Result.{IfOk-weaker}
use Rattle.packet.specs.Format.{reading}
use Rattle.medium.specs.Bursts.{first}
use Rattle.station.specs.End.{arrival}
use Rattle.agreement.specs.Line.{across, end_at, out_of}
use Rattle.agreement.specs.Calls.{Arrive, unless, arrival_rules, letter_of}
use Rattle.bench.specs.Joined.{line_of}
use Rattle.bench.specs.LineModels.{open_of}
use Rattle.bench.proofs.LineSteps.{left, reports}
use Rattle.bench.proofs.line_calls.arrive.Goals as goal

pub returns-clause-printed : goal.returns-clause-printed
returns-clause-printed g c =
    let l = line_of (open_of c.args.line.now c.args.media.now) in
    let k = g.K.Check in
    IfOk-weaker c.reported.result _ _
    (λ s e. e ∙ reports Arrive c.arrive-result.result _ _ (λ s. letter_of (reading k.LEN k.meaning (first (out_of (across s) l)))) (λ s. unless (arrival_rules (out_of (across s) l)) (arrival k.LEN k.meaning (end_at s l) (first (out_of (across s) l)))) (λ s. refl) (λ s. refl) (λ s. refl) c.args.side c.arrive-result.ensures)
    c.reported.ensures

pub returns-clause-after : goal.returns-clause-after
returns-clause-after g c = left _ _ _ _ _ c.args.side c.arrive-result.ensures
