use Rattle.end_script.specs.Told.{call_of}
use Rattle.end_bench.specs.Calls.{both}
use Rattle.end_bench.specs.Fair.{kept, lent}
use Rattle.end_bench.specs.Named.{open_end}
use Rattle.end_bench.proofs.Fairness.{fair_a_a, fair_a_b, fair_b_a, fair_b_b}
use Rattle.answers.proofs.Leavings.{left_either}
use Rattle.end_bench.proofs.ends.running.run_end.Goals as goal

pub invariant_of-ends : goal.invariant_of-ends
invariant_of-ends c =
    let w = c.args.ends.now in
    let k = call_of c.args.command.call in
    let left = left_either c.call_on.result _ _ (both c.call_on.new.end c.call_on.new.slip) c.call_on.ensures.after in
    record { fair = fair_a_a (open_end w.a) (kept w.a_slip) k _ _ left (kept w.b_slip) (lent (open_end w.b)) w.fair }

pub invariant_of-ends-in-A-B : goal.invariant_of-ends-in-A-B
invariant_of-ends-in-A-B c =
    let w = c.args.ends.now in
    let k = call_of c.args.command.call in
    let left = left_either c.call_on-in-A-B.result _ _ (both c.call_on-in-A-B.new.end c.call_on-in-A-B.new.slip) c.call_on-in-A-B.ensures.after in
    record { fair = fair_a_b (open_end w.a) (kept w.b_slip) k _ _ left (kept w.a_slip) (lent (open_end w.b)) w.fair }

pub invariant_of-ends-in-B-A : goal.invariant_of-ends-in-B-A
invariant_of-ends-in-B-A c =
    let w = c.args.ends.now in
    let k = call_of c.args.command.call in
    let left = left_either c.call_on-in-B-A.result _ _ (both c.call_on-in-B-A.new.end c.call_on-in-B-A.new.slip) c.call_on-in-B-A.ensures.after in
    record { fair = fair_b_a (open_end w.b) (kept w.a_slip) k _ _ left (kept w.b_slip) (lent (open_end w.a)) w.fair }

pub invariant_of-ends-in-B-B : goal.invariant_of-ends-in-B-B
invariant_of-ends-in-B-B c =
    let w = c.args.ends.now in
    let k = call_of c.args.command.call in
    let left = left_either c.call_on-in-B-B.result _ _ (both c.call_on-in-B-B.new.end c.call_on-in-B-B.new.slip) c.call_on-in-B-B.ensures.after in
    record { fair = fair_b_b (open_end w.b) (kept w.b_slip) k _ _ left (kept w.a_slip) (lent (open_end w.a)) w.fair }
