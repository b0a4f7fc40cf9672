-- The transcript of the calls that a led line was led through.
use Rattle.std.specs.Prelude.{ℕ, List, None, length}
use Rattle.packet.specs.declared.checks.Check as check
use Rattle.agreement.specs.Calls.{Submit, Arrive, ReadOut}
use Rattle.agreement.specs.Transcript.{Transcript, opened, then}
use Rattle.line.specs.Models.{said, offer_told, read_told}
use Rattle.line_tests.specs.declared.led.Led.{Led}

-- by the frames of west and east, the message m that west submits, and the place that east reads out into, before and after
abbrev pub led_through : {K : Type 0} {k : check.Ghosts K} → List ℕ → List ℕ → List ℕ → List ℕ → List ℕ → Led K k → Transcript
led_through w e m place place' x =
    then (then (then (then (then (then (then (opened w e x.west.offer x.east.offer)
    1 Arrive (said x.enq_at_east) (offer_told x.enq_at_east))
    0 Arrive (said x.enq_at_west) (offer_told x.enq_at_west))
    0 Arrive (said x.reset_at_west) (offer_told x.reset_at_west))
    0 (Submit m) (said x.submitted) (offer_told x.submitted))
    1 Arrive (said x.reset_at_east) (offer_told x.reset_at_east))
    1 Arrive (said x.data_at_east) (offer_told x.data_at_east))
    1 (ReadOut (length place)) (read_told x.read place') None
