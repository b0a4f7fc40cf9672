use Rattle.std.proofs.Common.{◌≡◌, length, refl, arith, rules}
use Rattle.buffer.specs.Buffers.{contents}
use Rattle.buffer.proofs.Turns.{one_more}
use Rattle.secondary.specs.Buffers.{blank}
use Rattle.secondary.proofs.deliveries.Deliveries.store.Goals as goal

pub returns-clause-messages : goal.returns-clause-messages
returns-clause-messages c =
    let t = c.args.self.now in
    let long : length t.buffers ≡ 8 = search rules in
    one_more contents blank t.buffers t.oldest t.place long t.held 0 t.held _ _ refl (omega arith) c.requires
