-- What a packed medium does. Assumes nothing.
use Rattle.std.specs.Prelude.{◌≡◌, ℕ, ◌+◌, min, Bool, cond, ◌&&◌, List, [], ◌∷◌, ◌++◌, length, nat_le}
use Rattle.ring.specs.Ring as ring
use Rattle.medium.specs.declared.offer.Offer.{Offer}
use Rattle.medium.specs.Bursts.{carried}
use Rattle.medium.specs.Offered.{whole_if}
use Rattle.packing.specs.declared.packed.PackedMedium.{PackedMedium}
use Rattle.packing.specs.Rowed.{framed, unpacked}

-- the bytes that it holds, oldest first
abbrev pub bytes : PackedMedium → List ℕ
bytes m = ring.elements m.ring

-- the bursts under way, oldest first
abbrev pub carries : PackedMedium → List (List ℕ)
carries m = unpacked (bytes m)

-- the length and the burst both find places
abbrev pub fits : PackedMedium → List ℕ → Bool
fits m b = nat_le (length (bytes m) + (2 + length b)) (ring.places m.ring)

-- it lies over all of xs, empty, in up to 65,536 bytes
abbrev pub Over : List ℕ → PackedMedium → Type 0
Over xs m = ring.Over xs 65536 m.ring

-- m' is m begun anew, empty, in up to n bytes and no more than 65,536
abbrev pub Anew : PackedMedium → ℕ → PackedMedium → Type 0
Anew m n m' = ring.Anew m.ring (min n 65536) m'.ring

-- what all calls leave as it is
abbrev pub Kept : PackedMedium → PackedMedium → Type 0
Kept m m' = ring.InPlace m.ring m'.ring

-- what an offer of b does: whole, and added, exactly when b is of 1 to 104 bytes and it and its length fit
pub record PacksIn (m : PackedMedium) (b : List ℕ) (r : Offer) (m' : PackedMedium) : Type 0 where
  pub answer : r ≡ whole_if (carried b && fits m b)
  pub bursts : carries m' ≡ cond (carried b && fits m b) (carries m ++ b ∷ []) (carries m)
  pub bytes : bytes m' ≡ cond (carried b && fits m b) (bytes m ++ framed b) (bytes m)
  pub kept : Kept m m'
