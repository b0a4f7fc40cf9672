-- Each burst of a queue has 1 to 104 bytes: the proof of the trait's law.
use Rattle.std.specs.Prelude.{List, [], ◌∷◌, map}
use Rattle.std.specs.List.{AllByRecursion}
use Rattle.buffer.proofs.Bounds.{length_contents}
use Rattle.ring.specs.Ring.{elements}
use Rattle.medium.specs.declared.burst.Burst.{Burst}
use Rattle.medium.specs.declared.queue.QueueMedium.{QueueMedium}
use Rattle.medium.specs.Bursts.{Carried}
use Rattle.medium.specs.Queue.{queued}
use Rattle.medium.specs.Records.{bytes_of}

pub records_carried : (rs : List Burst) → AllByRecursion Carried (map bytes_of rs)
records_carried [] = tt
records_carried (r ∷ rs) = ((r.some, length_contents r.bytes), records_carried rs)

pub all_carried : (q : QueueMedium) → AllByRecursion Carried (queued q)
all_carried q = records_carried (elements q.ring)
