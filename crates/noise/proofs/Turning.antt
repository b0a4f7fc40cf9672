-- A pattern's turn is `rotate_left(1)`.
use Rattle.std.proofs.Common.{◌≡◌, ℕ, ◌+◌, ◌*◌, ◌/◌, ◌%◌, ◌<◌, sym, ap, ◌∙◌, arith}
use lib.Bits.{bit_or, or_shifted}
use Rattle.noise.specs.Patterns.{turned}

pub turned_is : (p : ℕ) → p < 4294967296 → bit_or (p * 2 % 4294967296) (p / 2147483648) ≡ turned p
turned_is p h =
    let e : p * 2 % 4294967296 ≡ (p % 2147483648) * 2 = omega arith in
    let b : p / 2147483648 < 2 = omega arith in
    ap (λ a. bit_or a (p / 2147483648)) e ∙ or_shifted (p % 2147483648) 1 (p / 2147483648) b ∙ ap (λ a. a + p / 2147483648) (sym e)
