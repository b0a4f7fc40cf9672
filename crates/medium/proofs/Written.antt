-- Bursts that a medium carries, and the front of one that is padded.
use Rattle.std.proofs.Common.{◌≡◌, ℕ, ◌-◌, ◌<◌, ◌≤◌, true, List, ◌++◌, length, take, replicate, refl, ap, ◌∙◌}
use Rattle.std.proofs.lemmas.List.{take_at, take_all}
use Rattle.std.proofs.lemmas.Bool.{and_from, lt-ltb, le-leb}
use Rattle.medium.specs.Bursts.{carried}

pub is_carried : (b : List ℕ) → 0 < length b → length b ≤ 104 → carried b ≡ true
is_carried b l h = and_from _ _ (lt-ltb 0 (length b) l) (le-leb (length b) 104 h)

pub front_padded : (b : List ℕ) → length b ≤ 104 → take (length b) (take 104 b ++ replicate (104 - length b) 0) ≡ b
front_padded b h = ap (λ x. take (length b) (x ++ replicate (104 - length b) 0)) (take_all 104 b h) ∙ take_at b (replicate (104 - length b) 0) (length b) refl
