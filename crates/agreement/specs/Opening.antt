-- The opening of a line.
use Rattle.std.specs.Prelude.{ℕ, not, ◌&&◌, List, [], ◌∷◌, length, None, Option, ◌==◌}
use Rattle.packet.specs.Refusals.{Answer, refused, gave, Rule, ◌⇒◌, judged}
use Rattle.settings.specs.declared.values.Settings.{Settings}
use Rattle.settings.specs.Frame.{settings_of}
use Rattle.station.specs.End.{Done, opened, seen}
use Rattle.agreement.specs.declared.sides.Side.{Side}
use Rattle.agreement.specs.declared.sides.Side.TheVariants.{West, East}
use Rattle.agreement.specs.Line.{Burst}

-- both values, or the first refusal
abbrev pub both : {A B : Type 0} → Answer A → Answer B → Answer (A × B)
both (refused n) b = refused n
both (gave x) (refused n) = refused n
both (gave x) (gave y) = gave (x, y)

-- a value that the rules then judge
abbrev pub then_judged : {A : Type 0} → List Rule → Answer A → Answer A
then_judged rs (refused n) = refused n
then_judged rs (gave x) = judged rs x

-- nothing is under way on either medium
abbrev pub opening_rules : List Burst → List Burst → List Rule
opening_rules eastward westward = not (length eastward == 0 && length westward == 0) ⇒ 28 ∷ []

-- west's frame, then east's, then the media
abbrev pub settings_agreed : List ℕ → List ℕ → List Burst → List Burst → Answer (Settings × Settings)
settings_agreed w e eastward westward = then_judged (opening_rules eastward westward) (both (settings_of w) (settings_of e))

-- what both ends do
abbrev pub both_opened : Settings × Settings → Done × Done
both_opened s = (opened 0 s.0, opened 1 s.1)

abbrev pub opening : List ℕ → List ℕ → List Burst → List Burst → Answer (Done × Done)
opening w e eastward westward = seen both_opened (settings_agreed w e eastward westward)

abbrev pub done_at : Side → Done × Done → Done
done_at West d = d.0
done_at East d = d.1

-- what a side's end sends
abbrev pub sent_at_opening : Side → Answer (Done × Done) → Option (ℕ × List ℕ)
sent_at_opening s (refused n) = None
sent_at_opening s (gave d) = (done_at s d).sent
