-- What a queue of bursts does. Assumes nothing.
use Rattle.std.specs.Prelude.{◌≡◌, ℕ, min, Bool, cond, ◌&&◌, List, [], ◌∷◌, ◌++◌, map, length, nat_lt}
use Rattle.ring.specs.Ring as ring
use Rattle.medium.specs.declared.burst.Burst.{Burst}
use Rattle.medium.specs.declared.offer.Offer.{Offer}
use Rattle.medium.specs.declared.queue.QueueMedium.{QueueMedium}
use Rattle.medium.specs.Bursts.{carried}
use Rattle.medium.specs.Offered.{whole_if}
use Rattle.medium.specs.Records.{bytes_of}

-- the bursts under way, oldest first
abbrev pub queued : QueueMedium → List (List ℕ)
queued q = map bytes_of (ring.elements q.ring)

-- for how many bursts it has places
abbrev pub places : QueueMedium → ℕ
places q = ring.places q.ring

-- all memory that it was lent
abbrev pub memory : QueueMedium → List Burst
memory q = ring.memory q.ring

-- a place is free
abbrev pub free : QueueMedium → Bool
free q = nat_lt (length (queued q)) (places q)

-- it lies over all of xs, empty, in up to 4,096 places
abbrev pub Over : List Burst → QueueMedium → Type 0
Over xs q = ring.Over xs 4096 q.ring

-- q' is q begun anew, empty, in up to n places and no more than 4,096
abbrev pub Anew : QueueMedium → ℕ → QueueMedium → Type 0
Anew q n q' = ring.Anew q.ring (min n 4096) q'.ring

-- what all calls leave as it is
abbrev pub Kept : QueueMedium → QueueMedium → Type 0
Kept q q' = ring.InPlace q.ring q'.ring

-- what an offer of b does: whole, and added, exactly when b is of 1 to 104 bytes and a place is free
pub record TakesIn (q : QueueMedium) (b : List ℕ) (r : Offer) (q' : QueueMedium) : Type 0 where
  pub answer : r ≡ whole_if (carried b && free q)
  pub bursts : queued q' ≡ cond (carried b && free q) (queued q ++ b ∷ []) (queued q)
  pub kept : Kept q q'
