use Rattle.std.proofs.Common.{ℕ, ◌%◌, get_or, sym, ap, ◌∙◌}
use lib.Bits.{bit_xor, xor_mod}
use Rattle.std.proofs.lemmas.List.Sums.{fold_more}
use Rattle.packet.proofs.xor.XorCheck.check.Goals as goal

pub loop-b-preserved : goal.loop-b-preserved
loop-b-preserved c =
    let x = get_or c.args.covered.now c.loop-b.b-index 0 in
    let step = fold_more (λ a x. bit_xor a (x % 128)) 0 c.args.covered.now c.loop-b.b-index 0 c.loop-b-test.true in
    xor_mod c.loop-b.all x 7 ∙ ap (λ (a : ℕ). bit_xor a (x % 128)) c.loop-b.invariant ∙ sym step
