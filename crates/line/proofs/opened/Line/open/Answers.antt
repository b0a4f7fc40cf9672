use Rattle.line.proofs.Beginning.{begun}
use Rattle.line.proofs.opened.Line.open.Goals as goal

pub returns-clause-reached : goal.returns-clause-reached
returns-clause-reached g c =
    (begun g.K.Check.LEN g.K.Check.meaning g.met.K.Check.sized g.met.K.Check.tells c.args.west_frame.now c.args.east_frame.now _ _ _ _ _ _ _ _ _ (c.in_ok-west_settings.ensures {u = tt}) c.begin.ensures.made c.begin-2.ensures.made c.begin.ensures.offered c.begin-2.ensures.offered).0

pub returns-clause-keeps : goal.returns-clause-keeps
returns-clause-keeps g c =
    (begun g.K.Check.LEN g.K.Check.meaning g.met.K.Check.sized g.met.K.Check.tells c.args.west_frame.now c.args.east_frame.now _ _ _ _ _ _ _ _ _ (c.in_ok-west_settings.ensures {u = tt}) c.begin.ensures.made c.begin-2.ensures.made c.begin.ensures.offered c.begin-2.ensures.offered).1
