use Rattle.std.proofs.Common.{get_or, unwrap_or, ap, arith}
use Rattle.notation.proofs.Pairs.{digit_small}
use Rattle.notation.proofs.Patterns.{room_for_digit}
use Rattle.notation.proofs.hex.pattern.Goals as goal

pub overflow_mul-bits : goal.overflow_mul-bits
overflow_mul-bits c = omega (arith, room_for_digit c.loop-c.c-index c.loop-c.bits (omega arith) c.loop-c.invariant.fits)

pub overflow_add-bits : goal.overflow_add-bits
overflow_add-bits c =
    let one = ap (λ o. unwrap_or o 0) c.in_ok-digit.ensures in
    omega (arith, room_for_digit c.loop-c.c-index c.loop-c.bits (omega arith) c.loop-c.invariant.fits, digit_small (get_or c.args.word.now c.loop-c.c-index 0))
