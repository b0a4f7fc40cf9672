-- From what a line's calls promise to what the workbench says of them. Assumes nothing.
use Rattle.std.proofs.Common.{◌≡◌, ℕ, List, [], ◌∷◌, length, drop, Some, None, Ok, Err, Option, Result, refl, sym, ap, ◌∙◌}
use Rattle.packet.specs.declared.checks.Check as check
use Rattle.packet.specs.declared.refusal.Refusal.{Refusal}
use Rattle.packet.specs.Refusals.{Answer, refused, gave}
use Rattle.packet.proofs.Judging.{never}
use Rattle.medium.specs.declared.Medium as medium
use Rattle.medium.specs.declared.offer.Offer.{Offer}
use Rattle.named_media.specs.Chosen.{bursts, Offers, Takes}
use Rattle.named_media.specs.Media.{carrier_of, taken}
use Rattle.named_media.specs.declared.chosen.ChosenMedium.{ChosenMedium}
use Rattle.station.specs.End.{Done, burst, seen, written_over}
use Rattle.station.specs.Reports.{Told, telling}
use Rattle.end_answers.specs.Reports.{placed_burst}
use Rattle.end_answers.proofs.Placed.{placed_back}
use Rattle.agreement.specs.declared.sides.Side.{Side}
use Rattle.agreement.specs.declared.sides.Side.TheVariants.{West, East}
use Rattle.agreement.specs.Line.{Burst, side_answer}
use Rattle.agreement.specs.Calls.{Call, Submit, Arrive, Expire, ReadOut, Collect, Set, Said, reported, Acted, acted, burst_of, sent_by, TurnAt}
use Rattle.line.specs.declared.report.LineReport.{LineReport}
use Rattle.line.specs.Called.{Called, Stand, seen_over, sent_at, front, front_at}
use Rattle.line.specs.Media.{OfferedOnce, TakenOnce, Incoming, Exactly}
use Rattle.line.specs.Models.{said, offer_told}
use Rattle.bench.specs.Joined.{Open, open_over, passed, offer_of, heard, medium_out, after_call, sends}
use Rattle.bench.specs.LineAnswers.{said_line, printed_call}
use Rattle.bench.specs.LineModels.{medium_of, open_of}
use Rattle.bench.specs.LineTold.{burst_in}

abbrev pub ghosts : medium.Ghosts ChosenMedium
ghosts = record { bursts = bursts; offers = Offers; takes = Takes }

pub passed_on : (b : Option Burst) (o : Option Offer) (m m' : ChosenMedium) → OfferedOnce ghosts b o m m' → medium_of m' ≡ passed b (medium_of m)
passed_on None None m m' h = ap medium_of h
passed_on None (Some o) m m' h = absurd h
passed_on (Some b) None m m' h = absurd h
passed_on (Some b) (Some o) m m' h = λ i. record { carrier = h.after i; memory = h.memory i }

pub offer_is : (b : Option Burst) (o : Option Offer) (m m' : ChosenMedium) → OfferedOnce ghosts b o m m' → o ≡ offer_of b (medium_of m)
offer_is None None m m' h = refl
offer_is None (Some o) m m' h = absurd h
offer_is (Some b) None m m' h = absurd h
offer_is (Some b) (Some o) m m' h = ap Some h.answer

taken_from : (bs : List Burst) (m m' : ChosenMedium) → bs ≡ bursts m → TakenOnce ghosts bs m m' → medium_of m' ≡ heard Arrive (medium_of m)
taken_from [] m m' e h =
    ap medium_of h ∙ (λ i. record { carrier = carrier_of (medium_of m).carrier.base (medium_of m).carrier.loss (medium_of m).carrier.offers (none i); memory = (medium_of m).memory })
  where
    none : bursts m ≡ (taken (medium_of m).carrier).bursts
    none = sym e ∙ ap (λ (xs : List Burst). drop 1 xs) e
taken_from (b ∷ bs) m m' e h = λ i. record { carrier = h.after i; memory = h.memory i }

heard_from : (k : Call) (m m' : ChosenMedium) → Incoming ghosts k m m' → medium_of m' ≡ heard k (medium_of m)
heard_from (Submit x) m m' h = ap medium_of h
heard_from Arrive m m' h = taken_from (bursts m) m m' refl h
heard_from Expire m m' h = ap medium_of h
heard_from (ReadOut n) m m' h = ap medium_of h
heard_from Collect m m' h = ap medium_of h
heard_from (Set f) m m' h = ap medium_of h

module _ {K : Type 0} {k : check.Ghosts K} (call : Call) (a : Answer Said) (o : Option Offer) (old new : Stand K ChosenMedium ChosenMedium k) where
  abbrev opened : Stand K ChosenMedium ChosenMedium k → Open
  opened s = open_of s.line (record { eastward = s.eastward; westward = s.westward })

  left_at : (s : Answer Side) → TurnAt k.LEN k.meaning s call (seen_over ghosts ghosts old) a o (seen_over ghosts ghosts new)
      → Exactly ghosts ghosts s call (sent_at k.LEN k.meaning s call (seen_over ghosts ghosts old)) o old.eastward new.eastward old.westward new.westward
      → opened new ≡ after_call k.LEN k.meaning s call (opened old)
  left_at (refused n) t x = λ i. open_over (t.same i).west_end (t.same i).east_end (medium_of (x.0 i)) (medium_of (x.1 i))
  left_at (gave West) t x = λ i. open_over (t.near i) (t.far i) (passed_on _ o old.eastward new.eastward x.0 i) (heard_from call old.westward new.westward x.1 i)
  left_at (gave East) t x = λ i. open_over (t.far i) (t.near i) (heard_from call old.eastward new.eastward x.0 i) (passed_on _ o old.westward new.westward x.1 i)

  pub left : (n : ℕ) → Called k ghosts ghosts n call a o old new → opened new ≡ after_call k.LEN k.meaning (side_answer n) call (opened old)
  left n h = left_at (side_answer n) h.step h.exact

  offered_at : (s : Side) → Exactly ghosts ghosts (gave s) call (sent_at k.LEN k.meaning (gave s) call (seen_over ghosts ghosts old)) o old.eastward new.eastward old.westward new.westward
      → o ≡ offer_of (sends k.LEN k.meaning s call (opened old)) (medium_out s (opened old))
  offered_at West x = offer_is _ o old.eastward new.eastward x.0
  offered_at East x = offer_is _ o old.westward new.westward x.1

  -- what a call that sends nothing prints
  answered_at : ((s : Side) → (acted k.LEN k.meaning s call (seen_over ghosts ghosts old)).sent ≡ None) → (s : Answer Side) → TurnAt k.LEN k.meaning s call (seen_over ghosts ghosts old) a o (seen_over ghosts ghosts new)
      → said_line [] None a ≡ printed_call k.LEN k.meaning s call (opened old)
  answered_at silent (refused n) t = ap (said_line [] None) t.answer
  answered_at silent (gave s) t =
      ap (said_line [] None) t.answer
      ∙ ap (λ (p : Option (ℕ × List ℕ)). said_line (burst k.meaning p) (offer_of (burst_of k.meaning p) (medium_out s (opened old))) (acted k.LEN k.meaning s call (seen_over ghosts ghosts old)).answer) (sym (silent s))

  pub answered : (n : ℕ) → ((s : Side) → (acted k.LEN k.meaning s call (seen_over ghosts ghosts old)).sent ≡ None) → Called k ghosts ghosts n call a o old new
      → said_line [] None a ≡ printed_call k.LEN k.meaning (side_answer n) call (opened old)
  answered n silent h = answered_at silent (side_answer n) h.step

pub same_told : {l m : Option ℕ} {t u : Told} → ◌≡◌ {A = Answer Said} (gave (reported l t)) (gave (reported m u)) → t ≡ u
same_told e = cc

-- a burst that was sent lies in its place
module _ (check : List ℕ → List ℕ) (letter : Option ℕ) (offer : Option Offer) where
  abbrev said_of : Answer Done → Answer Said
  said_of x = seen (λ d. reported letter (telling check d)) x

  sent_back : (x : Answer Done) (res : Result LineReport Refusal) (place place' : List ℕ) → said res ≡ said_of x → place' ≡ written_over (burst check (sent_by x)) place
      → said_line (burst_in res place') offer (said_of x) ≡ said_line (burst check (sent_by x)) offer (said_of x)
  sent_back (refused n) res place place' e p = refl
  sent_back (gave d) (Err why) place place' e p = absurd (never _ _ e)
  sent_back (gave d) (Ok r) place place' e p =
      ap (λ (b : List ℕ). said_line b offer (said_of (gave d)))
      ((λ i. placed_burst (same_told e i) (p i)) ∙ placed_back check d (drop (length (burst check d.sent)) place))

-- what a call that can send prints, where at each side it does what x says
module _ {K : Type 0} {k : check.Ghosts K} (call : Call) (res : Result LineReport Refusal) (old new : Stand K ChosenMedium ChosenMedium k) (letter : Side → Option ℕ) (x : Side → Answer Done) where
  abbrev does : Side → Acted
  does s = acted k.LEN k.meaning s call (seen_over ghosts ghosts old)

  module _ (answers : (s : Side) → (does s).answer ≡ said_of k.meaning (letter s) None (x s)) (sent : (s : Side) → (does s).sent ≡ sent_by (x s)) (fronts : (s : Side) → front k.meaning call (does s) ≡ burst k.meaning (sent_by (x s))) where
    reported_at : (s : Answer Side) → TurnAt k.LEN k.meaning s call (seen_over ghosts ghosts old) (said res) (offer_told res) (seen_over ghosts ghosts new)
        → Exactly ghosts ghosts s call (sent_at k.LEN k.meaning s call (seen_over ghosts ghosts old)) (offer_told res) old.eastward new.eastward old.westward new.westward
        → new.place ≡ written_over (front_at k.LEN k.meaning s call (seen_over ghosts ghosts old)) old.place
        → said_line (burst_in res new.place) (offer_told res) (said res) ≡ printed_call k.LEN k.meaning s call (opened call (said res) (offer_told res) old new old)
    reported_at (refused n) t e p = ap (said_line (burst_in res new.place) (offer_told res)) t.answer
    reported_at (gave s) t e p =
        let o = offer_of (burst_of k.meaning (does s).sent) (medium_out s (opened call (said res) (offer_told res) old new old)) in
        let a = t.answer ∙ answers s in
        ap (λ (o : Option Offer). said_line (burst_in res new.place) o (said res)) (offered_at call (said res) (offer_told res) old new s e)
        ∙ ap (said_line (burst_in res new.place) o) a
        ∙ sent_back k.meaning (letter s) o (x s) res old.place new.place a (p ∙ ap (λ (b : List ℕ). written_over b old.place) (fronts s))
        ∙ (λ i. said_line (burst k.meaning (sym (sent s) i)) o (sym (answers s) i))

    pub reports : (n : ℕ) → Called k ghosts ghosts n call (said res) (offer_told res) old new
        → said_line (burst_in res new.place) (offer_told res) (said res) ≡ printed_call k.LEN k.meaning (side_answer n) call (opened call (said res) (offer_told res) old new old)
    reports n h = reported_at (side_answer n) h.step h.exact h.placed
