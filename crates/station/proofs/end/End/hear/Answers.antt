use Rattle.primary.specs.Model as primary
use Rattle.station.proofs.Sendable.{step_valid}
use Rattle.station.proofs.end.End.hear.Goals as goal

pub invariant_of-self : goal.invariant_of-self
invariant_of-self g c =
    let s = c.args.self.now in
    record { sendable = step_valid s.settings.attempt_limit (primary.heard c.args.event) s.primary c.step.new.self c.step.result s.sendable c.step.ensures.value c.step.ensures.unchanged; limited = s.limited }
