-- Packed media over the same ring are the same medium. Assumes nothing.
use Rattle.std.proofs.Common.{◌≡◌}
use Rattle.std.proofs.Math.Nat.{ℕ_set}
use mathlib.Core.List.{is_set}
use mathlib.Core.HLevel.{is_prop→PathP}
use Rattle.ring.specs.Ring.{elements}
use Rattle.packing.specs.declared.packed.PackedMedium.{PackedMedium}
use Rattle.packing.specs.Rowed.{Packs}

-- what the ghost field says has one proof at most
pub same_packed : (m m' : PackedMedium) → m'.ring ≡ m.ring → m' ≡ m
same_packed m m' r =
    λ i. record { ring = r i; packs = is_prop→PathP (λ j. Packs (elements (r j))) (λ j. is_set ℕ_set _ _) m'.packs m.packs i }
