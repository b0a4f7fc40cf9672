use Rattle.std.proofs.Common.{◌≡◌, Option, ap, subst}
use Rattle.station.specs.Reports.{Told}
use Rattle.station.specs.End.{opened as end_opened}
use Rattle.agreement.specs.Line.{Burst, side_number}
use Rattle.agreement.specs.Calls.{Offers, burst_of}
use Rattle.line.specs.Hearing.{written}
use Rattle.line.specs.Media.{OfferedOnce}
use Rattle.line.proofs.Reports.{packet_written}
use Rattle.line.proofs.opening.begin.Given as given
use Rattle.line.proofs.opening.begin.Goals as goal

-- the packet that was offered
sent : (g : given.Over) (c : goal.After-pass_on g) → written c.open.result.1.sent c.open.new.place ≡ burst_of g.K.Check.meaning (end_opened (side_number c.args.side) c.args.settings).sent
sent g c = packet_written g.K.Check.meaning c.open.result.1.sent (end_opened (side_number c.args.side) c.args.settings).sent c.args.place.now c.open.new.place (ap (λ (t : Told). t.sent) c.open.ensures.value) c.open.ensures.placed

pub returns-clause-offered : goal.returns-clause-offered
returns-clause-offered g c = subst (λ (b : Option Burst). Offers (g.O.Medium.bursts c.args.out.now) b c.pass_on.result.offer (g.O.Medium.bursts c.pass_on.new.out)) (sent g c) c.pass_on.ensures.offered

pub returns-clause-once : goal.returns-clause-once
returns-clause-once g c = subst (λ (b : Option Burst). OfferedOnce g.O.Medium b c.pass_on.result.offer c.args.out.now c.pass_on.new.out) (sent g c) c.pass_on.ensures.once
