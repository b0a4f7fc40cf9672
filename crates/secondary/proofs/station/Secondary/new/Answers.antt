use Rattle.std.proofs.Common.{rules}
use Rattle.secondary.proofs.Orders.{leave_in_order}
use Rattle.secondary.proofs.station.Secondary.new.Goals as goal

pub returns-clause-in_order : goal.returns-clause-in_order
returns-clause-in_order c = leave_in_order c.args.line _ (search rules)
