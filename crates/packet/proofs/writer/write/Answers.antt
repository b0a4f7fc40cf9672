use Rattle.packet.proofs.Writings.{back}
use Rattle.packet.proofs.writer.write.Goals as goal

pub returns-clause-reads_back : goal.returns-clause-reads_back
returns-clause-reads_back g c =
    let put = c.put_packet.ensures in
    back g.K.Check.LEN g.K.Check.meaning g.met.K.Check.sized c.args.letter c.args.field.now _ _ c.args.out.now put.value put.after
