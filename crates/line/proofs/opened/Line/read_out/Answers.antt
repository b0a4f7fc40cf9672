use Rattle.std.proofs.Common.{rules, refl}
use Rattle.line.proofs.Sides.{refused_at, west_called, east_called}
use Rattle.line.proofs.opened.Line.read_out.Goals as goal

pub returns-in_err-try_from-clause-call : goal.returns-in_err-try_from-clause-call
returns-in_err-try_from-clause-call g c = refused_at g.K.Check g.E.Medium g.W.Medium g.met.K.Check.sized g.met.K.Check.tells _ _ _ _ _ _ _ (c.in_err-try_from.ensures {u = tt}) (search rules) (search rules) refl

pub returns-in-West-clause-call : goal.returns-in-West-clause-call
returns-in-West-clause-call g c = west_called g.K.Check g.E.Medium g.W.Medium g.met.K.Check.sized g.met.K.Check.tells _ _ _ _ c.args.self.now _ _ _ _ _ _ _ _ (c.in_ok-try_from.ensures {u = tt}) c.in-West.is c.read_out.ensures.call

pub returns-in-East-clause-call : goal.returns-in-East-clause-call
returns-in-East-clause-call g c = east_called g.K.Check g.E.Medium g.W.Medium g.met.K.Check.sized g.met.K.Check.tells _ _ _ _ c.args.self.now _ _ _ _ _ _ _ _ (c.in_ok-try_from.ensures {u = tt}) c.in-East.is c.read_out-in-East.ensures.call
