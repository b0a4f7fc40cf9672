-- The rest of the messages get one outcome. Assumes nothing.
use Rattle.std.proofs.Common.{◌≡◌, ◌<◌, List, [], ◌∷◌, ◌++◌, length, drop, replicate, ap, ◌∙◌, arith}
use Rattle.std.proofs.lemmas.List.{append_assoc}

-- the messages p are left, and one of them gets the outcome x
pub one_settled : {X Y : Type 0} (x : X) (o o' : List X) (p p' : List Y) → 0 < length p → p' ≡ drop 1 p → o' ≡ o ++ x ∷ []
    → o' ++ replicate (length p') x ≡ o ++ replicate (length p) x
one_settled x o o' [] p' pos e f = absurd (omega arith)
one_settled {X = X} {Y = Y} x o o' (y ∷ p) p' pos e f =
    ap (λ (q : List Y). o' ++ replicate (length q) x) e
    ∙ ap (λ (q : List X). q ++ replicate (length p) x) f
    ∙ append_assoc o (x ∷ []) (replicate (length p) x)
