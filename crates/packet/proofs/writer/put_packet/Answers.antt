use Rattle.std.proofs.Common.{◌≡◌, ℕ, length, take, sym, ap, ◌∙◌, rules}
use Rattle.packet.specs.Format.{covered, writing}
use Rattle.packet.specs.Refusals.{refused}
use Rattle.packet.proofs.Readings.{check_front}
use Rattle.packet.proofs.Writings.{covered_is, written, way_field}
use Rattle.packet.proofs.writer.put_packet.Goals as goal

pub returns-in_err-accept-clause-value : goal.returns-in_err-accept-clause-value
returns-in_err-accept-clause-value g c =
    let refuses : refused _ ≡ writing g.K.Check.LEN c.args.letter c.args.field.now (length c.args.out.now) = way_field g.K.Check.LEN c.args.letter _ c.args.field.now (length c.args.out.now) c.in_ok-try_from.ensures _ c.in_err-accept.ensures in
    search rules

pub returns-clause-after : goal.returns-clause-after
returns-clause-after g c =
    let l = c.args.letter in
    let f = c.args.field.now in
    let means = g.K.Check.meaning in
    let front = c.put_frame.ensures in
    let check = c.copy_from_slice.ensures.after ∙ ap (λ (k : ℕ). take k c.check-check.result) c.LEN-2.ensures ∙ check_front g.K.Check.LEN _ _ c.check-check.ensures (g.met.K.Check.sized _) ∙ ap means (covered_is l f _ _ front) in
    written c.LEN.result means l f _ _ _ front check (g.met.K.Check.sized (covered l f) ∙ sym c.LEN.ensures)
