use Rattle.std.proofs.Common.{rules, refl}
use Rattle.line.proofs.Sides.{refused_at, west_called, east_called}
use Rattle.line.proofs.opened.Line.submit.Goals as goal

pub returns-in_err-try_from : goal.returns-in_err-try_from
returns-in_err-try_from g c = refused_at g.K.Check g.E.Medium g.W.Medium g.met.K.Check.sized g.met.K.Check.tells _ _ _ _ _ _ _ (c.in_err-try_from.ensures {u = tt}) (search rules) (search rules) refl

pub returns-in-West : goal.returns-in-West
returns-in-West g c = west_called g.K.Check g.E.Medium g.W.Medium g.met.K.Check.sized g.met.K.Check.tells _ _ _ _ c.args.self.now _ _ _ _ _ _ _ _ (c.in_ok-try_from.ensures {u = tt}) c.in-West.is c.submit.ensures

pub returns-in-East : goal.returns-in-East
returns-in-East g c = east_called g.K.Check g.E.Medium g.W.Medium g.met.K.Check.sized g.met.K.Check.tells _ _ _ _ c.args.self.now _ _ _ _ _ _ _ _ (c.in_ok-try_from.ensures {u = tt}) c.in-East.is c.submit-in-East.ensures
