use Rattle.std.proofs.Common.{arith}
use Rattle.std.proofs.lemmas.List.{length-map, map_push}
use Rattle.std.proofs.lemmas.Grind.{common_steps}
use Rattle.medium.specs.Records.{bytes_of}
use Rattle.ring.specs.Ring.{elements}
use Rattle.medium.proofs.queue.QueueMediumMedium.offer.Goals as goal

pub returns-then-put-clause-exact : goal.returns-then-put-clause-exact
returns-then-put-clause-exact c =
    let n = length-map (elements c.args.self.now.ring) bytes_of in
    let p = map_push bytes_of (elements c.args.self.now.ring) c.in-Some.record in
    record { answer = grind (arith, common_steps, n); bursts = grind (arith, common_steps, p); kept = c.put.ensures.place }

pub returns-else-put-clause-exact : goal.returns-else-put-clause-exact
returns-else-put-clause-exact c =
    let n = length-map (elements c.args.self.now.ring) bytes_of in
    record { answer = grind (arith, common_steps, n); bursts = grind (arith, common_steps, n); kept = c.put.ensures.place }
