use Rattle.packet.proofs.Alterations.{altered_refused}
use Rattle.packet.proofs.Roundtrip.{read_as_written}
use Rattle.packet.proofs.reader.read.Goals as goal

pub returns-clause-as_written : goal.returns-clause-as_written
returns-clause-as_written g c = read_as_written g.K.Check.LEN g.K.Check.meaning g.met.K.Check.sized c.args.burst.now _ c.take_apart.ensures

pub returns-clause-altered : goal.returns-clause-altered
returns-clause-altered g c = altered_refused g.K.Check.LEN g.K.Check.meaning g.met.K.Check.sized g.met.K.Check.tells c.args.burst.now _ c.take_apart.ensures
