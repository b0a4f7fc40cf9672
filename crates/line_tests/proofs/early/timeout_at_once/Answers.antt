use Rattle.std.proofs.Common.{◌∙◌}
use Rattle.packet.specs.Refusals.{refused}
use Rattle.line_tests.proofs.UnderWay.{frames_decide, enq_under_way, too_early, handed_on, refused_alike, given_alike}
use Rattle.line_tests.proofs.early.timeout_at_once.Goals as goal

pub returns-in_err-opened : goal.returns-in_err-opened
returns-in_err-opened g c =
    let agreed = frames_decide (refused 27) _ _ c.args.west_frame.now c.args.east_frame.now c.over-eastward.ensures.bursts c.over-westward.ensures.bursts in
    handed_on _ _ _ c.from_residual.ensures ∙ refused_alike _ (refused 27) _ _ c.in_err-opened.ensures.west.made ∙ agreed

pub returns : goal.returns
returns g c =
    let agreed = frames_decide (refused 27) _ _ c.args.west_frame.now c.args.east_frame.now c.over-eastward.ensures.bursts c.over-westward.ensures.bursts in
    let busy = enq_under_way g.K.Check _ (λ q q' b o t. t) g.met.K.Check.greatest_size g.met.K.Check.sized _ _ _ _ _ _ c.in_ok-opened.ensures.west c.over-eastward.ensures.bursts c.over-eastward.ensures.ring.places in
    given_alike _ _ (refused 27) _ _ c.in_ok-opened.ensures.west.made (too_early c.timeout.ensures.step busy) ∙ agreed
