use Rattle.std.proofs.Common.{None, length, refl, ◌∙◌}
use Rattle.std.proofs.lemmas.Result.{IfOk-weaker}
use Rattle.agreement.specs.Calls.{ReadOut}
use Rattle.bench.proofs.LineSteps.{answered}
use Rattle.bench.proofs.line_calls.read.Goals as goal

pub returns-in-Ok-clause-printed : goal.returns-in-Ok-clause-printed
returns-in-Ok-clause-printed g c =
    IfOk-weaker c.message.result _ _ (λ s e. e ∙ answered (ReadOut (length c.args.place.now)) _ None _ _ c.args.side (λ s. refl) (c.in-Ok.ensures {u = tt}).call) c.message.ensures
