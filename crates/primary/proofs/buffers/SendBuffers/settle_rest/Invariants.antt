use Rattle.std.proofs.Common.{◌≡◌, ◌+◌, ◌++◌, length, replicate}
use Rattle.primary.specs.declared.outcome.Outcome.TheVariants.{NoConnection}
use Rattle.primary.specs.Buffers.{unsettled, uncollected}
use Rattle.primary.specs.Outcomes.{outcome_number}
use Rattle.primary.proofs.buffers.SendBuffers.settle_rest.Given as goal

abbrev pub invariant-loop : goal.invariant-loop
invariant-loop l = record {
  told : uncollected l.self ++ replicate (length (unsettled l.self)) (outcome_number NoConnection) ≡ uncollected l.initial.self ++ replicate (length (unsettled l.initial.self)) (outcome_number NoConnection);
  done : l.self.done ≡ l.initial.self.done + l.counter;
  used : l.self.used ≡ l.initial.self.used;
}
