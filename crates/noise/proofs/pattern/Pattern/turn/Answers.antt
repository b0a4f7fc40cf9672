use Rattle.std.proofs.Common.{◌∙◌, arith}
use Rattle.noise.proofs.Turning.{turned_is}
use Rattle.noise.proofs.pattern.Pattern.turn.Goals as goal

pub returns-clause-after : goal.returns-clause-after
returns-clause-after c = c.rotate_left-self.ensures ∙ turned_is c.args.self.now.bits (omega arith)
