-- What a packed medium does with an offer has the meaning of a medium.
use Rattle.std.proofs.Common.{ℕ, List}
use Rattle.medium.specs.declared.offer.Offer.{Offer}
use Rattle.medium.specs.Offered.{Offered}
use Rattle.medium.proofs.Exact.{offered}
use Rattle.packing.specs.declared.packed.PackedMedium.{PackedMedium}
use Rattle.packing.specs.Packed.{carries, fits, PacksIn}

pub meaning : (m : PackedMedium) (b : List ℕ) (r : Offer) (m' : PackedMedium) → PacksIn m b r m' → Offered (carries m) b r (carries m')
meaning m b r m' x = offered (carries m) (carries m') b (fits m b) r x.answer x.bursts
