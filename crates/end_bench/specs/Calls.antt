-- Calls on the end of a name, with the slip that is kept: what is printed, and what is left. Assumes nothing.
use Rattle.std.specs.Prelude.{ℕ, Bool, false, cond, not, ◌&&◌, ◌||◌, List, [], ◌++◌, is_some, Some, None, codes, decimal, Option}
use Rattle.std.specs.Option.{option_map}
use Rattle.notation.specs.Hex.{hex}
use Rattle.packet.specs.Refusals.{Answer, refused, gave}
use Rattle.primary.specs.Rules.{oldest}
use Rattle.primary.specs.Table.{collected}
use Rattle.secondary.specs.Buffers.{oldest_of}
use Rattle.secondary.specs.Station.{take_answer, after_take, give_answer, after_give}
use Rattle.station.specs.End.{End, Done, submission, timeout, arrival, opening_of, change, left_by, set_by, with_primary, with_secondary}
use Rattle.script_words.specs.declared.fault.Fault.TheVariants.{NoEnd, NoSlip, SlipKept}
use Rattle.script_words.specs.declared.words.Kind.{Kind}
use Rattle.answers.specs.Lines.{end, refusal, wrong}
use Rattle.end_answers.specs.Reports.{done_line, outcome_line, set_line}
use Rattle.end_answers.specs.States.{state_line}
use Rattle.end_script.specs.Calls as call
use Rattle.secondary.specs.declared.station.DeliverySlip.{DeliverySlip}
use Rattle.end_bench.specs.declared.named.OpenEnd.{OpenEnd}
use Rattle.end_bench.specs.Fair.{Slip, kept}
use Rattle.answers.specs.Checks.{check}
use Rattle.end_bench.specs.Named.{Named, open_end}

-- what is printed of an end, unless none is open
abbrev pub if_open : Named → (Kind → End → List ℕ) → List ℕ
if_open None line = wrong NoEnd
if_open (Some p) line = line p.0 p.1

-- an end after a call
abbrev pub changed : (Kind → End → End) → Named → Named
changed f e = option_map (λ p. (p.0, f p.0 p.1)) e

abbrev pub is_out : Named → Bool
is_out None = false
is_out (Some p) = p.1.secondary.out

-- a name is opened again once its slip is back
abbrev pub bars_opening : Named → Option Slip → Bool
bars_opening e s = is_some s || is_out e

abbrev pub opened : Kind → Answer Done → Named → Named
opened k (refused n) e = e
opened k (gave d) e = Some (k, d.next)

-- no second slip is kept for a name
abbrev pub bars_taking : End → Option Slip → Bool
bars_taking e s = is_some s && not e.secondary.out

-- `length=2 message=4F4B slip=7,0`
abbrev pub take_line : Answer (ℕ × ℕ × ℕ) → List ℕ → List ℕ
take_line (refused n) m = refusal n
take_line (gave t) m =
    codes "length=" ++ (decimal t.0 ++ (codes " message=" ++ (hex m ++ (codes " slip=" ++ (decimal t.1 ++ (codes "," ++ (decimal t.2 ++ end)))))))

abbrev pub taken : Answer (ℕ × ℕ × ℕ) → Option Slip → Option Slip
taken (refused n) s = s
taken (gave t) s = Some (t.1, t.2)

abbrev pub given_line : Answer (Unit {0}) → List ℕ
given_line (refused n) = refusal n
given_line (gave u) = codes "given back" ++ end

abbrev pub give_line : Option Slip → End → List ℕ
give_line None e = wrong NoSlip
give_line (Some p) e = given_line (give_answer p.0 p.1 e.secondary)

abbrev pub given : Option Slip → End → End
given None e = e
given (Some p) e = with_secondary (after_give p.0 p.1 e.secondary) e

abbrev pub spent : Answer (Unit {0}) → Option Slip → Option Slip
spent (refused n) s = s
spent (gave u) s = None

abbrev pub slip_given : End → Option Slip → Option Slip
slip_given e None = None
slip_given e (Some p) = spent (give_answer p.0 p.1 e.secondary) (Some p)

-- What is printed for a call on an end. The slip is the one kept for the name that the call is on, or that a slip is given
-- from.
abbrev pub call_line : Named → Option Slip → call.Call → List ℕ
call_line e s (call.opening l k f) = cond (bars_opening e s) (wrong SlipKept) (done_line (check k) (codes "opened ") (opening_of l f))
call_line e s (call.submit m) = if_open e λ k x. done_line (check k) [] (submission x m)
call_line e s call.timeout = if_open e λ k x. done_line (check k) [] (timeout x)
call_line e s (call.arrive b) = if_open e λ k x. done_line (check k) [] (arrival 1 (check k) x b)
call_line e s (call.take n) = if_open e λ k x. cond (bars_taking x s) (wrong SlipKept) (take_line (take_answer n x.secondary) (oldest_of x.secondary.held))
call_line e s (call.give from) = if_open e λ k x. give_line s x
call_line e s call.collect = if_open e λ k x. outcome_line (oldest x.primary.outcomes)
call_line e s (call.settings f) = if_open e λ k x. set_line (change x f)
call_line e s call.state = if_open e λ k x. state_line x

-- the end that a call leaves
abbrev pub end_after : Named → Option Slip → call.Call → Named
end_after e s (call.opening l k f) = cond (bars_opening e s) e (opened k (opening_of l f) e)
end_after e s (call.submit m) = changed (λ k x. left_by (submission x m) x) e
end_after e s call.timeout = changed (λ k x. left_by (timeout x) x) e
end_after e s (call.arrive b) = changed (λ k x. left_by (arrival 1 (check k) x b) x) e
end_after e s (call.take n) = changed (λ k x. cond (bars_taking x s) x (with_secondary (after_take n x.secondary) x)) e
end_after e s (call.give from) = changed (λ k x. given s x) e
end_after e s call.collect = changed (λ k x. with_primary (collected x.primary) x) e
end_after e s (call.settings f) = changed (λ k x. set_by (change x f) x) e
end_after e s call.state = e

abbrev pub of_open : Named → Option Slip → (End → Option Slip) → Option Slip
of_open None s f = s
of_open (Some p) s f = f p.1

-- the slip that is kept then
abbrev pub slip_after : Named → Option Slip → call.Call → Option Slip
slip_after e s (call.opening l k f) = s
slip_after e s (call.submit m) = s
slip_after e s call.timeout = s
slip_after e s (call.arrive b) = s
slip_after e s (call.take n) = of_open e s λ x. cond (bars_taking x s) s (taken (take_answer n x.secondary) s)
slip_after e s (call.give from) = of_open e s λ x. slip_given x s
slip_after e s call.collect = s
slip_after e s (call.settings f) = s
slip_after e s call.state = s

-- the end of a name and the slip of a name, and what a call leaves of them
abbrev pub both : Option OpenEnd → Option DeliverySlip → Named × Option Slip
both e s = (open_end e, kept s)

abbrev pub both_after : Named → Option Slip → call.Call → Named × Option Slip
both_after e s k = (end_after e s k, slip_after e s k)
