-- The answers to questions about a side.
use Rattle.std.specs.Prelude.{◌≡◌, [], length, Ok, Err, Result}
use Rattle.packet.specs.Numbers.{is_one}
use Rattle.packet.specs.declared.checks.Check as check
use Rattle.packet.specs.declared.refusal.Refusal.{Refusal}
use Rattle.packet.specs.Refusals.{Answer, refused, gave, number_of}
use Rattle.primary.specs.declared.station.Status.{Status}
use Rattle.primary.specs.Model.{state_of}
use Rattle.primary.specs.Station.{unsettled_in}
use Rattle.secondary.specs.Station.{buffer_out}
use Rattle.station.specs.declared.report.Holding.{Holding}
use Rattle.station.specs.End.{End, seen}
use Rattle.agreement.specs.declared.sides.Side.{Side}
use Rattle.agreement.specs.Line.{end_at}
use Rattle.line.specs.declared.opened.Line as code
use Rattle.line.specs.Models.{line_of}

-- the end at the side of a number
abbrev pub end_asked : {K : Type 0} {k : check.Ghosts K} → Answer Side → code.Line K k → Answer End
end_asked a l = seen (λ s. end_at s (line_of l [] [])) a

-- what is returned of the end, or the refusal's number
abbrev pub Tells : {X : Type 0} → (X → End → Type 0) → Answer End → Result X Refusal → Type 0
Tells of (refused n) (Ok x) = ⊥
Tells of (refused n) (Err r) = number_of r ≡ n
Tells of (gave e) (Ok x) = of x e
Tells of (gave e) (Err r) = ⊥

pub record StatusOf (x : Status) (e : End) : Type 0 where
  pub state : x.state ≡ state_of e.primary.phase
  pub number : is_one x.number ≡ e.primary.number
  pub attempts : x.attempts ≡ e.primary.attempts
  pub credit : x.credit ≡ e.primary.credit
  pub unsettled : x.unsettled ≡ length (unsettled_in e.primary.phase)
  pub uncollected : x.uncollected ≡ length e.primary.outcomes

pub record HoldingOf (x : Holding) (e : End) : Type 0 where
  pub last : x.last_answer ≡ e.secondary.last
  pub held : x.held ≡ length e.secondary.held
  pub out : x.buffer_out ≡ buffer_out e.secondary
