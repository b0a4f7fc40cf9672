-- An ENQ that is under way from west, and what it makes of a timeout there.
use Rattle.std.proofs.Common.{◌≡◌, ℕ, ◌<◌, ◌≤◌, Bool, true, cond, ◌&&◌, List, [], ◌∷◌, ◌++◌, length, nat_lt, nat_le, Some, None, Ok, Err, Option, Result, sym, refl, ap, ◌∙◌, arith}
use Rattle.std.specs.Result.{IsErr, IsErrAnd}
use Rattle.packet.specs.declared.checks.Check as check
use Rattle.packet.specs.declared.refusal.Refusal.{Refusal}
use Rattle.packet.specs.Format.{packet}
use Rattle.packet.specs.Refusals.{Answer, answer, refused, gave, number_of}
use Rattle.packet.proofs.Judging.{never}
use Rattle.settings.specs.declared.values.Settings.{Settings}
use Rattle.settings.specs.Frame.{settings_of}
use Rattle.medium.specs.declared.Medium as medium
use Rattle.medium.specs.declared.offer.Offer.{Offer}
use Rattle.medium.specs.declared.queue.QueueMedium.{QueueMedium}
use Rattle.medium.specs.Bursts.{carried, some_letter}
use Rattle.medium.specs.Letters as letters
use Rattle.medium.specs.Queue.{queued, places, TakesIn}
use Rattle.station.specs.End.{Done, seen}
use Rattle.agreement.specs.declared.sides.Side.TheVariants.{West}
use Rattle.agreement.specs.Line.{Burst, Line}
use Rattle.agreement.specs.Calls.{Said, Expire, Turn}
use Rattle.agreement.specs.Opening.{both, then_judged, opening_rules, both_opened, opening}
use Rattle.line.specs.declared.report.Opened as code
use Rattle.line.specs.Media.{OfferedOnce}
use Rattle.line.specs.Opened.{SideOpened}

-- where nothing is under way the frames alone decide
pub frames_decide : {B : Type 0} (v : B) (x y : List Burst) (w e : List ℕ) → x ≡ [] → y ≡ [] → seen (λ (d : Done × Done). v) (opening w e x y) ≡ seen (λ (s : Settings × Settings). v) (both (settings_of w) (settings_of e))
frames_decide v x y w e p q = ap (λ (z : List Burst). seen (λ (d : Done × Done). v) (opening w e z y)) p ∙ ap (λ (z : List Burst). seen (λ (d : Done × Done). v) (opening w e [] z)) q ∙ decided (both (settings_of w) (settings_of e))
  where
    decided : (a : Answer (Settings × Settings)) → seen (λ (d : Done × Done). v) (seen both_opened (then_judged (opening_rules [] []) a)) ≡ seen (λ (s : Settings × Settings). v) a
    decided (refused n) = refl
    decided (gave s) = refl

carried_is : (n : ℕ) → 0 < n → n ≤ 104 → (nat_lt 0 n && nat_le n 104) ≡ true
carried_is n p q = grind arith

added : (bs : List Burst) (n : ℕ) (b : Burst) (t : Bool) → bs ≡ [] → n ≡ 1 → t ≡ true → cond (t && nat_lt (length bs) n) (bs ++ b ∷ []) bs ≡ b ∷ []
added bs n b t p q r = rw p (rw q (rw r refl))

module _ {K : Type 0} (k : check.Ghosts K) (g : medium.Ghosts QueueMedium) (takes_in : (q q' : QueueMedium) (b : Burst) (o : Offer) → g.offers q b o q' → TakesIn q b o q') (greatest : k.LEN ≤ 5) (sized : (xs : List ℕ) → length (k.meaning xs) ≡ k.LEN) where
  abbrev enq : Burst
  enq = packet k.meaning 0x45 []

  enq_carried : carried enq ≡ true
  enq_carried = carried_is (length enq) (omega arith) (omega (arith, sized (0x45 ∷ 0x03 ∷ []), greatest))

  -- west's ENQ is a command under way
  pub enq_under_way : (a : Answer (Settings × Settings)) (x : code.Opened K k) (q q' : QueueMedium) (p p' : List ℕ)
      → SideOpened k g West (seen both_opened a) (Ok x) q q' p p' → queued q ≡ [] → places q ≡ 1 → some_letter letters.command (queued q') ≡ true
  enq_under_way (refused n) x q q' p p' s empty one = never n _ (sym s.made)
  enq_under_way (gave d) x q q' p p' s empty one = go x.west.offer s.once
    where
      go : (o : Option Offer) → OfferedOnce g (Some enq) o q q' → some_letter letters.command (queued q') ≡ true
      go None f = absurd f
      go (Some o) f = ap (some_letter letters.command) ((takes_in q q' enq o f).bursts ∙ added (queued q) (places q) enq (carried enq) empty one enq_carried)

pub too_early : {c : ℕ} {check : List ℕ → List ℕ} {l l' : Line} {v : Answer Said} {o : Option Offer} → Turn c check West Expire l v o l' → some_letter letters.command l.eastward ≡ true → v ≡ refused 27
too_early t h = t.answer ∙ rw h refl

-- a refusal that is handed on
pub handed_on : {X Y : Type 0} (f : X → Y) (r : Result X Refusal) (e : Refusal) → IsErr r × IsErrAnd r (λ x. x ≡ e) → answer f r ≡ refused (number_of e)
handed_on f (Ok x) e h = absurd h.1
handed_on f (Err x) e h = ap (λ (y : Refusal). refused (number_of y)) h.1

-- the same answer, where its value is told as another
pub refused_alike : {D A B : Type 0} (f : D → A) (w : B) (a : Answer D) (n : ℕ) → refused n ≡ seen f a → refused n ≡ seen (λ (d : D). w) a
refused_alike f w (refused m) n e = ap (λ (x : ℕ). refused x) (number e)
  where
    number : {A : Type 0} {n m : ℕ} → ◌≡◌ {A = Answer A} (refused n) (refused m) → n ≡ m
    number e = cc
refused_alike f w (gave s) n e = never n _ e

pub given_alike : {D A B : Type 0} (f : D → A) (v w : B) (a : Answer D) (x : A) → gave x ≡ seen f a → v ≡ w → gave v ≡ seen (λ (d : D). w) a
given_alike f v w (refused m) x e i = never m x (sym e)
given_alike {B = B} f v w (gave s) x e i = ap (λ (z : B). gave z) i
