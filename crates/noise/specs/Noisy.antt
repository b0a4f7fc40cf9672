-- What a noisy medium does. Assumes nothing.
use Rattle.std.specs.Prelude.{◌≡◌, ℕ, ◌+◌, ◌%◌, ◌^◌, cond, not, ◌&&◌, List, [], ◌∷◌, ◌++◌, length}
use Rattle.buffer.specs.Buffers.{flipped}
use Rattle.medium.specs.declared.offer.Offer.{Offer}
use Rattle.medium.specs.Bursts.{carried}
use Rattle.medium.specs.Offered.{whole_if}
use Rattle.medium.specs.Queue.{queued, free, Kept}
use Rattle.noise.specs.declared.noisy.NoisyMedium.{NoisyMedium}
use Rattle.noise.specs.Patterns.{low, turned}

-- what becomes of a burst at the pattern p and after n offers
abbrev pub sent : ℕ → ℕ → List ℕ → List ℕ
sent p n b = cond (low p) (flipped b (n % length b)) b

-- what an offer of b does; one of 0 or over 104 bytes does nothing
pub record Sends (m : NoisyMedium) (b : List ℕ) (r : Offer) (m' : NoisyMedium) : Type 0 where
  pub answer : r ≡ whole_if (carried b && (not (low m.pattern.bits) && free m.queue))
  pub bursts : queued m'.queue ≡ cond (carried b && free m.queue) (queued m.queue ++ sent m.pattern.bits m.offers b ∷ []) (queued m.queue)
  pub pattern : m'.pattern.bits ≡ cond (carried b) (turned m.pattern.bits) m.pattern.bits
  pub offers : m'.offers ≡ cond (carried b) ((m.offers + 1) % 2 ^ 32) m.offers
  pub kept : Kept m.queue m'.queue

-- what a take leaves as it is
pub record Keeps (m m' : NoisyMedium) : Type 0 where
  pub pattern : m'.pattern ≡ m.pattern
  pub offers : m'.offers ≡ m.offers
  pub kept : Kept m.queue m'.queue
