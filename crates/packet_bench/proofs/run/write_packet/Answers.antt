use Rattle.std.proofs.Common.{◌≡◌, ◌-◌, length, take, ap, ◌∙◌}
use lib.ListN.{length-replicate}
use Rattle.std.proofs.lemmas.List.{with_items_is}
use Rattle.std.proofs.lemmas.Result.{IfOk-weaker}
use Rattle.packet.specs.Refusals.{number_of}
use Rattle.packet_bench.proofs.Writings.{written_line, refused_line}
use Rattle.packet_bench.proofs.run.write_packet.Goals as goal

pub returns-in-Ok : goal.returns-in-Ok
returns-in-Ok g c =
    let room : length c.deref_mut.result.now ≡ c.args.length = ap length (c.deref_mut.ensures.value ∙ c.in_ok-place.ensures) ∙ length-replicate c.args.length 0xee in
    let after : c.deref.result.now ≡ c.write.new.out = c.deref.ensures.value ∙ with_items_is c.in_ok-place.place c.write.new.out (c.write.auto.out ∙ c.deref_mut.ensures.len) in
    let line = written_line g.K.Check.LEN g.K.Check.meaning g.met.K.Check.sized c.args.letter c.args.field.now c.args.length c.in-Ok.end c.deref_mut.result.now c.write.new.out (take (c.in-Ok.end - 0) c.deref.result.now) room c.in-Ok.ensures.value c.in-Ok.ensures.after (ap (take (c.in-Ok.end - 0)) after) in
    IfOk-weaker c.written.result _ _ (λ s e. e ∙ line) c.written.ensures

pub returns : goal.returns
returns g c =
    let room : length c.deref_mut.result.now ≡ c.args.length = ap length (c.deref_mut.ensures.value ∙ c.in_ok-place.ensures) ∙ length-replicate c.args.length 0xee in
    let line = refused_line g.K.Check.LEN g.K.Check.meaning g.met.K.Check.sized c.args.letter c.args.field.now c.args.length (number_of c.in-Err.why) c.deref_mut.result.now room c.in-Err.ensures.value in
    IfOk-weaker c.refused.result _ _ (λ s e. e ∙ line) c.refused.ensures
