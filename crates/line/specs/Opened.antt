-- What an opening did at one side.
use Rattle.std.specs.Prelude.{◌≡◌, ℕ, List, None, Ok, Err, Option, Result}
use Rattle.packet.specs.declared.checks.Check as check
use Rattle.packet.specs.declared.refusal.Refusal.{Refusal}
use Rattle.packet.specs.Refusals.{Answer, answer}
use Rattle.medium.specs.declared.Medium as medium
use Rattle.medium.specs.declared.offer.Offer.{Offer}
use Rattle.station.specs.End.{End, Done, seen, burst, written_over}
use Rattle.station.specs.Models.{model}
use Rattle.station.specs.Reports.{telling}
use Rattle.agreement.specs.declared.sides.Side.{Side}
use Rattle.agreement.specs.declared.sides.Side.TheVariants.{West, East}
use Rattle.agreement.specs.Calls.{reported, Offers, burst_of}
use Rattle.agreement.specs.Opening.{done_at, sent_at_opening}
use Rattle.line.specs.declared.report.LineReport.{LineReport}
use Rattle.line.specs.declared.report.Opened as code
use Rattle.line.specs.Media.{OfferedOnce}
use Rattle.line.specs.Models.{report_said}

abbrev pub report_at : {K : Type 0} {k : check.Ghosts K} → Side → code.Opened K k → LineReport
report_at West x = x.west
report_at East x = x.east

abbrev pub end_made : {K : Type 0} {k : check.Ghosts K} → Side → code.Opened K k → End
end_made West x = model x.line.west
end_made East x = model x.line.east

-- the answer of the side's medium, where its end was opened
abbrev pub offer_at : {K : Type 0} {k : check.Ghosts K} → Side → Result (code.Opened K k) Refusal → Option Offer
offer_at s (Ok x) = (report_at s x).offer
offer_at s (Err e) = None

-- A side's end is the one that its frame makes, or the opening is refused; its ENQ is written to the side's place, whose other
-- bytes are kept, and offered once to its medium.
pub record SideOpened {K O : Type 0} (k : check.Ghosts K) (o : medium.Ghosts O) (s : Side) (a : Answer (Done × Done)) (r : Result (code.Opened K k) Refusal) (out out' : O) (place place' : List ℕ) : Type 0 where
  pub made : answer (end_made s) r ≡ seen (λ d. (done_at s d).next) a
  pub told : answer (λ x. report_said (report_at s x)) r ≡ seen (λ d. reported None (telling k.meaning (done_at s d))) a
  pub placed : place' ≡ written_over (burst k.meaning (sent_at_opening s a)) place
  pub offered : Offers (o.bursts out) (burst_of k.meaning (sent_at_opening s a)) (offer_at s r) (o.bursts out')
  pub once : OfferedOnce o (burst_of k.meaning (sent_at_opening s a)) (offer_at s r) out out'
