-- The two ends of a workbench and the slips that it keeps. Assumes nothing.
use Rattle.std.specs.Prelude.{ℕ, List, None, Option}
use Rattle.end_script.specs.Calls as call
use Rattle.end_script.specs.declared.end.Name.{Name}
use Rattle.end_script.specs.declared.end.Name.TheVariants.{A, B}
use Rattle.end_bench.specs.Calls.{call_line, end_after, slip_after}
use Rattle.end_bench.specs.Fair.{Slip}
use Rattle.end_bench.specs.Named.{Named}

pub record Bench : Type 0 where
  pub a : Named
  pub b : Named
  pub a_slip : Option Slip
  pub b_slip : Option Slip

abbrev pub empty : Bench
empty = record { a = None; b = None; a_slip = None; b_slip = None }

abbrev pub end_of : Name → Bench → Named
end_of A w = w.a
end_of B w = w.b

abbrev pub slip_of : Name → Bench → Option Slip
slip_of A w = w.a_slip
slip_of B w = w.b_slip

abbrev pub with_end : Name → Named → Bench → Bench
with_end A e w = record { a = e; b = w.b; a_slip = w.a_slip; b_slip = w.b_slip }
with_end B e w = record { a = w.a; b = e; a_slip = w.a_slip; b_slip = w.b_slip }

abbrev pub with_slip : Name → Option Slip → Bench → Bench
with_slip A s w = record { a = w.a; b = w.b; a_slip = s; b_slip = w.b_slip }
with_slip B s w = record { a = w.a; b = w.b; a_slip = w.a_slip; b_slip = s }

-- the name whose slip a call is about: a slip may be given from another name
abbrev pub slip_name : Name → call.Call → Name
slip_name n (call.opening l k f) = n
slip_name n (call.submit m) = n
slip_name n call.timeout = n
slip_name n (call.arrive b) = n
slip_name n (call.take size) = n
slip_name n (call.give from) = from
slip_name n call.collect = n
slip_name n (call.settings f) = n
slip_name n call.state = n

-- a call on the end of one name, with the slip of one name
abbrev pub printed_by : Name → Name → Bench → call.Call → List ℕ
printed_by n from w k = call_line (end_of n w) (slip_of from w) k

abbrev pub after_by : Name → Name → Bench → call.Call → Bench
after_by n from w k = with_slip from (slip_after (end_of n w) (slip_of from w) k) (with_end n (end_after (end_of n w) (slip_of from w) k) w)

-- what is printed for a command
abbrev pub printed : Bench → call.Command → List ℕ
printed w c = printed_by c.name (slip_name c.name c.call) w c.call

-- what a command leaves
abbrev pub after : Bench → call.Command → Bench
after w c = after_by c.name (slip_name c.name c.call) w c.call
