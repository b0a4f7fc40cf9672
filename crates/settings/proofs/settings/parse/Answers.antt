use Rattle.std.proofs.Common.{◌≡◌, arith}
use Rattle.settings.specs.Frame.{InRange, frame_of}
use Rattle.settings.proofs.Frames.{passed_range, passed_frame, taken}
use Rattle.settings.proofs.settings.parse.Goals as goal

pub returns-clause-ranges : goal.returns-clause-ranges
returns-clause-ranges c = taken c.args.frame.now InRange (passed_range c.args.frame.now) _ c.take_apart.ensures

pub returns-clause-determined : goal.returns-clause-determined
returns-clause-determined c =
    let f = c.args.frame.now in
    taken f (λ s. f ≡ frame_of s) (λ p. passed_frame f p (λ k. omega (arith, c.type_inv.frame k))) _ c.take_apart.ensures
