-- What a queue does with an offer has the meaning of a medium.
use Rattle.std.proofs.Common.{ℕ, List}
use Rattle.medium.specs.declared.offer.Offer.{Offer}
use Rattle.medium.specs.declared.queue.QueueMedium.{QueueMedium}
use Rattle.medium.specs.Offered.{Offered}
use Rattle.medium.specs.Queue.{queued, free, TakesIn}
use Rattle.medium.proofs.Exact.{offered}

pub meaning : (q : QueueMedium) (b : List ℕ) (r : Offer) (q' : QueueMedium) → TakesIn q b r q' → Offered (queued q) b r (queued q')
meaning q b r q' x = offered (queued q) (queued q') b (free q) r x.answer x.bursts
