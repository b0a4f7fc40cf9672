-- What holds of every buffer.
use Rattle.std.proofs.Common.{◌≡◌, ℕ, ◌≤◌, List, ◌++◌, length, take, drop, min, ap, ◌∙◌, arith}
use Rattle.std.proofs.lemmas.List.{length-take, take_all}
use Rattle.buffer.specs.declared.Buffer.{Buffer}
use Rattle.buffer.specs.Buffers.{contents}

-- it has at most N bytes
pub length_contents : {N : ℕ} (b : Buffer N) → length (contents b) ≤ N
length_contents b = omega (arith, length-take b.len b.memory, b.fits)

-- a copy to a place of N bytes or more is of the whole
pub copied_whole : (m old new : List ℕ) (n : ℕ) → length m ≤ length old → n ≡ min (length m) (length old)
    → new ≡ take n m ++ drop n old → (n ≡ length m) × (new ≡ m ++ drop n old)
copied_whole m old new n h e c =
    let k : n ≡ length m = omega arith in
    (k, c ∙ ap (λ (x : List ℕ). x ++ drop n old) (take_all n m (omega arith)))
