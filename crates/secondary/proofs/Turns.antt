-- What a station keeps where no rule refuses, and how much it holds. Assumes nothing.
use Rattle.std.proofs.Common.{◌≡◌, ◌≤◌, List, length, ap, arith}
use Rattle.buffer.specs.Buffers.{contents}
use Rattle.buffer.proofs.Turns.{length_turns}
use Rattle.packet.specs.Refusals.{Answer, Rule, judged}
use Rattle.packet.proofs.Judging.{Passed, all_past}
use Rattle.secondary.specs.declared.station.Secondary.{Secondary}
use Rattle.secondary.specs.Buffers.{blank}
use Rattle.secondary.specs.Station.{model, or_kept}

pub held_fits : (s : Secondary) → length (model s).held ≤ 8
held_fits s =
    let t = s.deliveries in
    let e = length_turns contents blank t.buffers t.oldest 0 t.held in
    let room = t.room in
    omega arith

pub changed : {X : Type 0} (rs : List Rule) (x y : X) → Passed rs → or_kept (judged rs y) x ≡ y
changed {X} rs x y p = ap (λ (a : Answer X). or_kept a x) (all_past rs y p)
