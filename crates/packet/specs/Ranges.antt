-- Bytes in a range, and lists that are equal. Assumes nothing.
use Rattle.std.specs.Prelude.{◌≡◌, ℕ, zero, suc, List, [], ◌∷◌, ◌++◌}
use Rattle.std.proofs.Common.{arith}
use Rattle.packet.specs.Checks.{Each}

pub each_append : (a b : ℕ) (xs ys : List ℕ) → Each a b xs → Each a b ys → Each a b (xs ++ ys)
each_append a b [] ys h g k lt = g k lt
each_append a b (x ∷ xs) ys h g zero lt = h zero (omega arith)
each_append a b (x ∷ xs) ys h g (suc k) lt = each_append a b xs ys (λ j l. h (suc j) (omega arith)) g k (omega arith)

pub head_same : {a b : ℕ} {xs ys : List ℕ} → a ∷ xs ≡ b ∷ ys → a ≡ b
head_same e = cc
