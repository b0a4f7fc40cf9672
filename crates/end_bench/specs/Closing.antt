-- Ends and slips at the end of a script. Assumes nothing.
use Rattle.std.specs.Prelude.{◌≡◌, cond, ◌⊎◌, Some, Ok, Err, Option, Result, ◌≢◌}
use Rattle.secondary.specs.declared.station.DeliverySlip.{DeliverySlip}
use Rattle.secondary.specs.Station.{freed}
use Rattle.station.specs.End.{End, with_secondary}
use Rattle.end_bench.specs.Calls.{changed, given}
use Rattle.end_bench.specs.Fair.{Slip, numbers, lent}
use Rattle.end_bench.specs.Named.{Named}

-- an end whose delivery that is out is given back; one that has none out is as it was
abbrev pub all_back : End → End
all_back e = cond e.secondary.out (with_secondary (freed e.secondary) e) e

-- the same of a name's end
abbrev pub closed : Named → Named
closed e = changed (λ k x. all_back x) e

-- A slip with the numbers n is given to an end that has x out: it fits, or it is handed back.
abbrev pub GivenBack : Result (Unit {0}) DeliverySlip → Slip → Option Slip → Type 0
GivenBack (Ok u) n x = x ≡ Some n
GivenBack (Err s) n x = (numbers s ≡ n) × (x ≢ Some n)

-- the end of a name then
abbrev pub given_to : Slip → Named → Named
given_to n e = changed (λ k x. given (Some n) x) e

-- the slip s is that of one of two ends
abbrev pub Fits : Option Slip → Named → Named → Type 0
Fits s x y = (s ≡ lent x) ⊎ (s ≡ lent y)

-- it is given back: that end has nothing out then, and the other is as it was
abbrev pub GivenToOne : Option Slip → Named → Named → Named → Named → Type 0
GivenToOne s x y x' y' = ((s ≡ lent x) × (x' ≡ closed x) × (y' ≡ y)) ⊎ ((s ≡ lent y) × (x' ≡ x) × (y' ≡ closed y))
