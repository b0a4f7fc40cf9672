-- Slips that are kept, and deliveries that are out. Assumes nothing.
use Rattle.std.specs.Prelude.{ℕ, Bool, true, false, cond, ◌&&◌, ◌||◌, Some, None, Option, ◌==◌}
use Rattle.std.specs.Option.{option_map}
use Rattle.secondary.specs.declared.station.DeliverySlip.{DeliverySlip}
use Rattle.secondary.specs.Station.{Station, oldest_buffer}
use Rattle.end_bench.specs.declared.named.OpenEnd.{OpenEnd}
use Rattle.end_bench.specs.Named.{Named, open_end}

-- a line number and a buffer number
abbrev pub Slip : Type 0
Slip = ℕ × ℕ

abbrev pub numbers : DeliverySlip → Slip
numbers s = (s.line, s.buffer)

abbrev pub kept : Option DeliverySlip → Option Slip
kept s = option_map numbers s

-- the delivery that a station has out
abbrev pub lent_by : Station → Option Slip
lent_by s = cond s.out (Some (s.line, oldest_buffer s)) None

abbrev pub lent : Named → Option Slip
lent None = None
lent (Some p) = lent_by p.1.secondary

abbrev pub same : Option Slip → Option Slip → Bool
same None None = true
same None (Some q) = false
same (Some p) None = false
same (Some p) (Some q) = p.0 == q.0 && p.1 == q.1

-- Of the slips s and t that are kept for two names, and the deliveries x and y that their ends have out: each slip is that
-- of one of the deliveries, and each delivery that of one of the slips.
abbrev pub fair : Option Slip → Option Slip → Option Slip → Option Slip → Bool
fair s t x y = (same s x && same t y) || (same s y && same t x)

abbrev pub fairly_kept : Option DeliverySlip → Option DeliverySlip → Option OpenEnd → Option OpenEnd → Bool
fairly_kept s t a b = fair (kept s) (kept t) (lent (open_end a)) (lent (open_end b))
