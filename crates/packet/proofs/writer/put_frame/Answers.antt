use Rattle.packet.proofs.Writings.{fronted}
use Rattle.packet.proofs.writer.put_frame.Goals as goal

pub returns : goal.returns
returns c = fronted c.args.letter c.args.field.now c.copy_from_slice.new.self c.args.out.now c.copy_from_slice.ensures.after c.requires
