-- What is printed for a command on the line, and what it leaves. Assumes nothing.
use Rattle.std.specs.Prelude.{ℕ, List, [], ◌++◌, Some, None, Option, codes}
use Rattle.std.specs.Option.{option_map}
use Rattle.packet.specs.Refusals.{Answer, refused, gave}
use Rattle.medium_script.specs.declared.spec.Spec.{Spec}
use Rattle.named_media.specs.Media.{begun}
use Rattle.station.specs.End.{End, Done, burst}
use Rattle.station.specs.Reports.{telling}
use Rattle.answers.specs.Checks.{check}
use Rattle.answers.specs.Lines.{end, refusal, wrong}
use Rattle.script_words.specs.declared.words.Kind.{Kind}
use Rattle.script_words.specs.declared.fault.Fault.TheVariants.{NoLine}
use Rattle.agreement.specs.Calls.{burst_of}
use Rattle.agreement.specs.Opening.{opening, sent_at_opening}
use Rattle.agreement.specs.declared.sides.Side.TheVariants.{West, East}
use Rattle.script.specs.Line as lines
use Rattle.bench.specs.Joined.{Medium, Open, Joined, open_over, with_carrier, passed, offer_of, after_asked}
use Rattle.bench.specs.LineAnswers.{line_report, printed_asked}

abbrev pub joined_as : Kind → Open → Joined
joined_as k o = record { ends = Some (k, o.west, o.east); eastward = o.eastward; westward = o.westward }

-- a medium begun anew
abbrev pub begun_medium : Spec → Medium → Medium
begun_medium s w = with_carrier (begun s w.memory) w

-- an opening over two media with nothing under way
abbrev pub opening_line : (List ℕ → List ℕ) → Answer (Done × Done) → Medium → Medium → List ℕ
opening_line check (refused n) x y = refusal n
opening_line check (gave d) x y =
    codes "opened west " ++ (line_report (telling check d.0) (burst check d.0.sent) (offer_of (burst_of check d.0.sent) x)
    ++ (codes " east " ++ (line_report (telling check d.1) (burst check d.1.sent) (offer_of (burst_of check d.1.sent) y) ++ end)))

-- the ends of an opening; refused, it leaves no line
abbrev pub ends_opened : Answer (Done × Done) → Option (End × End)
ends_opened (refused n) = None
ends_opened (gave d) = Some (d.0.next, d.1.next)

abbrev pub of_kind : Kind → Option (End × End) → Option (Kind × End × End)
of_kind k e = option_map (λ p. (k, p.0, p.1)) e

abbrev pub opened_over : Kind → Answer (Done × Done) → Medium → Medium → Joined
opened_over k a x y =
    record {
      ends = of_kind k (ends_opened a);
      eastward = passed (burst_of (check k) (sent_at_opening West a)) x;
      westward = passed (burst_of (check k) (sent_at_opening East a)) y;
    }

-- by the line that is open, if one is
abbrev pub if_open : {A : Type 0} → Option (Kind × End × End) → A → (Kind → End → End → A) → A
if_open None none some = none
if_open (Some p) none some = some p.0 p.1 p.2

-- what is printed for a command
abbrev pub printed : Joined → lines.Command → List ℕ
printed j (lines.opening k w e x y) = opening_line (check k) (opening w e [] []) (begun_medium x j.eastward) (begun_medium y j.westward)
printed j (lines.at n call) = if_open j.ends (wrong NoLine) λ k w e. printed_asked 1 (check k) n call (open_over w e j.eastward j.westward)

-- what a command leaves
abbrev pub after : lines.Command → Joined → Joined
after (lines.opening k w e x y) j = opened_over k (opening w e [] []) (begun_medium x j.eastward) (begun_medium y j.westward)
after (lines.at n call) j = if_open j.ends j λ k w e. joined_as k (after_asked 1 (check k) n call (open_over w e j.eastward j.westward))
