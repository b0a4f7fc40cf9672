use Rattle.std.proofs.Common.{set, sym, ap, ◌∙◌, arith}
use Rattle.ring.specs.Ring.{elements}
use Rattle.packing.proofs.Walks.{take_step, write_step}
use Rattle.packing.proofs.rows.take_all.Goals as goal

pub loop-byte-preserved : goal.loop-byte-preserved
loop-byte-preserved c =
    let xs = elements c.args.ring.now in
    let ys = elements c.loop-byte.ring in
    let i = c.loop-byte.byte-index in
    record {
      rest = take_step xs ys (elements c.take.new.self) i c.unwrap.result (omega arith) c.loop-byte.invariant.rest c.take.ensures.after;
      copied = ap (λ p. set p i c.unwrap.result) c.loop-byte.invariant.copied
          ∙ write_step xs c.args.place.now ys i c.unwrap.result (omega arith) (omega arith) c.loop-byte.invariant.rest (sym c.unwrap.ensures ∙ c.take.ensures.value);
      kept = record { places = c.take.ensures.place.places ∙ c.loop-byte.invariant.kept.places; beyond = c.take.ensures.place.beyond ∙ c.loop-byte.invariant.kept.beyond };
    }
