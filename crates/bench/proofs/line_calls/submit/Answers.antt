use Rattle.std.proofs.Common.{None, refl, ◌∙◌}
use Rattle.std.proofs.lemmas.Result.{IfOk-weaker}
use Rattle.station.specs.End.{submission}
use Rattle.agreement.specs.Line.{end_at}
use Rattle.agreement.specs.Calls.{Submit}
use Rattle.bench.specs.Joined.{line_of}
use Rattle.bench.specs.LineModels.{open_of}
use Rattle.bench.proofs.LineSteps.{left, reports}
use Rattle.bench.proofs.line_calls.submit.Goals as goal

pub returns-clause-printed : goal.returns-clause-printed
returns-clause-printed g c =
    let l = line_of (open_of c.args.line.now c.args.media.now) in
    IfOk-weaker c.reported.result _ _ (λ s e. e ∙ reports (Submit c.args.message.now) c.submit-result.result _ _ (λ s. None) (λ s. submission (end_at s l) c.args.message.now) (λ s. refl) (λ s. refl) (λ s. refl) c.args.side c.submit-result.ensures) c.reported.ensures

pub returns-clause-after : goal.returns-clause-after
returns-clause-after g c = left _ _ _ _ _ c.args.side c.submit-result.ensures
