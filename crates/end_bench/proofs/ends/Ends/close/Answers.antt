use Rattle.std.proofs.Common.{rules}
use Rattle.end_bench.specs.Fair.{kept}
use Rattle.end_bench.specs.Named.{open_end}
use Rattle.end_bench.proofs.Closings.{one_fits, other_fits, a_closed, b_closed, none_out}
use Rattle.end_bench.proofs.ends.Ends.close.Goals as goal

pub give_to_one-requires : goal.give_to_one-requires
give_to_one-requires c =
    let w = c.args.self in
    one_fits (kept w.a_slip) (kept w.b_slip) (open_end w.a) (open_end w.b) w.fair

pub give_to_one-requires-2 : goal.give_to_one-requires-2
give_to_one-requires-2 c =
    let w = c.args.self in
    other_fits (kept w.a_slip) (kept w.b_slip) (open_end w.a) (open_end w.b) w.fair _ _ c.give_to_one.ensures

pub returns-clause-a : goal.returns-clause-a
returns-clause-a c =
    let w = c.args.self in
    let done = a_closed (kept w.a_slip) (kept w.b_slip) (open_end w.a) (open_end w.b) _ _ _ _ w.fair c.give_to_one.ensures c.give_to_one-2.ensures in
    search rules

pub returns-clause-b : goal.returns-clause-b
returns-clause-b c =
    let w = c.args.self in
    let done = b_closed (kept w.a_slip) (kept w.b_slip) (open_end w.a) (open_end w.b) _ _ _ _ w.fair c.give_to_one.ensures c.give_to_one-2.ensures in
    search rules

pub returns-clause-none_out : goal.returns-clause-none_out
returns-clause-none_out c =
    let w = c.args.self in
    let done = none_out (kept w.a_slip) (kept w.b_slip) (open_end w.a) (open_end w.b) _ _ _ _ w.fair c.give_to_one.ensures c.give_to_one-2.ensures in
    search rules
