use Rattle.std.proofs.Common.{None, refl, ◌∙◌}
use Rattle.std.proofs.lemmas.Result.{IfOk-weaker}
use Rattle.station.specs.End.{timeout}
use Rattle.agreement.specs.Line.{across, end_at, out_of}
use Rattle.agreement.specs.Calls.{Expire, unless, timeout_rules}
use Rattle.bench.specs.Joined.{line_of}
use Rattle.bench.specs.LineModels.{open_of}
use Rattle.bench.proofs.LineSteps.{left, reports}
use Rattle.bench.proofs.line_calls.timeout.Goals as goal

pub returns-clause-printed : goal.returns-clause-printed
returns-clause-printed g c =
    let l = line_of (open_of c.args.line.now c.args.media.now) in
    IfOk-weaker c.reported.result _ _ (λ s e. e ∙ reports Expire c.timeout-result.result _ _ (λ s. None) (λ s. unless (timeout_rules (out_of s l) (out_of (across s) l)) (timeout (end_at s l))) (λ s. refl) (λ s. refl) (λ s. refl) c.args.side c.timeout-result.ensures) c.reported.ensures

pub returns-clause-after : goal.returns-clause-after
returns-clause-after g c = left _ _ _ _ _ c.args.side c.timeout-result.ensures
