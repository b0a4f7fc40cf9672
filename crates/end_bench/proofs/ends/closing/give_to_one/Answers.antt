use Rattle.std.proofs.Common.{rules}
use Rattle.end_bench.specs.Fair.{numbers}
use Rattle.end_bench.specs.Named.{open_end}
use Rattle.end_bench.proofs.Givings.{second_given}
use Rattle.end_bench.proofs.ends.closing.give_to_one.Goals as goal

pub returns-in-Err : goal.returns-in-Err
returns-in-Err c =
    let given = second_given (numbers c.in-Some.slip) (numbers c.in-Err.slip) (open_end c.args.a.now) (open_end c.args.b.now) (open_end c.give_back.new.end) (open_end c.give_back-in-Err.new.end) in
    search rules
