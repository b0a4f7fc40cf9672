-- What a queue does that alters every burst. Assumes nothing.
use Rattle.std.specs.Prelude.{◌≡◌, ℕ, ◌+◌, ◌%◌, cond, ◌&&◌, List, [], ◌∷◌, ◌++◌, slice_index, slice_set}
use Rattle.medium.specs.declared.offer.Offer.{Offer}
use Rattle.medium.specs.declared.offer.Offer.TheVariants.{Spoilt}
use Rattle.medium.specs.Bursts.{carried}
use Rattle.medium.specs.Queue.{queued, free, Kept}
use Rattle.stranger_media.specs.declared.altering.AlteringMedium.{AlteringMedium}

-- the first byte counts one more, and FF becomes 00
abbrev pub one_more : List ℕ → List ℕ
one_more b = slice_set b 0 ((slice_index b 0 + 1) % 256)

-- what an offer of b does; one of 0 or over 104 bytes does nothing
pub record Alters (m : AlteringMedium) (b : List ℕ) (r : Offer) (m' : AlteringMedium) : Type 0 where
  pub answer : r ≡ Spoilt
  pub bursts : queued m'.queue ≡ cond (carried b && free m.queue) (queued m.queue ++ one_more b ∷ []) (queued m.queue)
  pub kept : Kept m.queue m'.queue
