-- From what an end did to what a call at its side did.
use Rattle.std.proofs.Common.{◌≡◌, ℕ, Bool, true, false, cond, List, [], ◌∷◌, ◌++◌, length, take, drop, Some, None, Ok, Err, Option, Result, IsOk, sym, refl, ap, ◌∙◌, subst, arith}
use Rattle.std.proofs.lemmas.List.{take_at}
use Rattle.std.proofs.lemmas.Bool.{ne_eqb}
use Rattle.std.specs.Option.{option_map}
use Rattle.packet.specs.Bytes.{byte_of}
use Rattle.packet.specs.Format.{Parts, parts, packet, reading}
use Rattle.packet.specs.Letters.{known}
use Rattle.packet.specs.declared.checks.Check as check
use Rattle.packet.specs.declared.refusal.Refusal.{Refusal}
use Rattle.packet.specs.Refusals.{Answer, refused, gave, answer, Rule, judged}
use Rattle.packet.proofs.Judging.{never, passed, all_past}
use Rattle.settings.specs.declared.values.Settings.{Settings}
use Rattle.settings.specs.Frame.{told as set_answer}
use Rattle.secondary.specs.declared.station.DeliverySlip.{DeliverySlip}
use Rattle.secondary.specs.Station.{given, or_kept, copied}
use Rattle.medium.specs.declared.Medium as medium
use Rattle.medium.specs.declared.offer.Offer.{Offer}
use Rattle.medium.specs.Bursts.{first}
use Rattle.station.specs.declared.end.End as code
use Rattle.station.specs.declared.report.Report.{Report}
use Rattle.station.specs.declared.report.Sent.{Sent}
use Rattle.station.specs.Models.{model}
use Rattle.station.specs.End.{End, Done, arrival, after_reading, seen, left_by, burst, written_over, placed_by}
use Rattle.station.specs.Reports.{Told, told, telling, packet_sent}
use Rattle.agreement.specs.Line.{Burst}
use Rattle.agreement.specs.Calls.{Said, reported, read, adopted, sent_by, burst_of, Offers, unless, arrival_rules, letter_of, done}
use Rattle.agreement.proofs.Readings.{read_letter}
use Rattle.line.specs.declared.report.LineReport.{LineReport}
use Rattle.line.specs.Called.{Does, message_in}
use Rattle.line.specs.Hearing.{written, letter_at}
use Rattle.line.specs.Media.{OfferedOnce, TakenOnce}
use Rattle.line.specs.Models.{report_said}

pub taken : (f place rest : List ℕ) (n : ℕ) → place ≡ f ++ rest → n ≡ length f → take n place ≡ f
taken f place rest n e h = ap (take n) e ∙ take_at f rest n (sym h)

refused_same : {A : Type 0} {n m : ℕ} → ◌≡◌ {A = Answer A} (refused n) (refused m) → n ≡ m
refused_same e = cc

module _ (check : List ℕ → List ℕ) where
  -- the packet that a report tells of lies at the place's front
  pub packet_written : (s : Option Sent) (p : Option (ℕ × List ℕ)) (place place' : List ℕ) → option_map packet_sent s ≡ option_map (λ p. (p.0, length (packet check p.0 p.1))) p → place' ≡ written_over (burst check p) place
      → written s place' ≡ burst_of check p
  packet_written None None place place' e w = refl
  packet_written None (Some p) place place' e w = let z : ◌≡◌ {A = ℕ} 0 1 = cc in absurd (omega arith)
  packet_written (Some s) None place place' e w = let z : ◌≡◌ {A = ℕ} 0 1 = cc in absurd (omega arith)
  packet_written (Some s) (Some p) place place' e w = let b = packet check p.0 p.1 in ap Some (taken b place' (drop (length b) place) s.length w (ap (λ (x : ℕ × ℕ). x.1) (some e)))
    where
      some : {x y : ℕ × ℕ} → ◌≡◌ {A = Option (ℕ × ℕ)} (Some x) (Some y) → x ≡ y
      some e = cc

-- an end did something, and its packet was offered
module _ {K O : Type 0} (k : check.Ghosts K) (o : medium.Ghosts O) (letter : Option ℕ) (into : List Burst) (e e' : code.End K k) (out out' : O) (place place' : List ℕ) where
  pub reports : (a : Answer Done) (r : Report) (x : LineReport)
      → gave (told r) ≡ seen (telling k.meaning) a → model e' ≡ left_by a (model e) → place' ≡ placed_by k.meaning a place
      → x.end ≡ r → option_map byte_of x.heard ≡ letter → Offers (o.bursts out) (written r.sent place') x.offer (o.bursts out') → OfferedOnce o (written r.sent place') x.offer out out'
      → Does k o (done k.LEN k.meaning letter a (model e) into) (burst k.meaning (sent_by a)) (gave (report_said x)) x.offer e e' out out' place place'
  reports (refused n) r x v n' p q h f g = never n (told r) (sym v)
  reports (gave d) r x v n' p q h f g =
      let t : told r ≡ telling k.meaning d = inside v in
      let is = packet_written k.meaning r.sent d.sent place place' (ap (λ (t : Told). t.sent) t) p in
      record {
        answer = ap (λ (y : Report). gave (reported (option_map byte_of x.heard) (told y))) q ∙ ap (λ (l : Option ℕ). gave (reported l (told r))) h ∙ ap (λ (t : Told). gave (reported letter t)) t;
        next = n';
        unchanged = λ m e. never m (report_said x) (sym e);
        placed = p;
        offered = subst (λ (b : Option Burst). Offers (o.bursts out) b x.offer (o.bursts out')) is f;
        once = subst (λ (b : Option Burst). OfferedOnce o b x.offer out out') is g;
      }
    where
      inside : {x y : Told} → gave x ≡ gave y → x ≡ y
      inside e = cc

-- an end refused
module _ {K O : Type 0} (k : check.Ghosts K) (o : medium.Ghosts O) (letter : Option ℕ) (into : List Burst) (e e' : code.End K k) (out : O) (place place' : List ℕ) where
  pub refuses : (a : Answer Done) (n : ℕ) → refused n ≡ seen (telling k.meaning) a → e' ≡ e → place' ≡ placed_by k.meaning a place
      → Does k o (done k.LEN k.meaning letter a (model e) into) (burst k.meaning (sent_by a)) (refused n) None e e' out out place place'
  refuses (gave d) n v same p = never n (telling k.meaning d) v
  refuses (refused m) n v same p = record { answer = ap (λ (x : ℕ). refused x) (refused_same v); next = ap (λ (x : code.End K k). model x) same; unchanged = λ m e. same; placed = p; offered = refl; once = refl }

-- what an end did at a burst is what it does at the same burst with others behind it
pub does_same : {K O : Type 0} (k : check.Ghosts K) (o : medium.Ghosts O) {l l' : Option ℕ} {a a' : Answer Done} (m : End) {said : Answer Said} {offer : Option Offer} {e e' : code.End K k} {out out' : O} {place place' : List ℕ} (into into' : List Burst)
    → l ≡ l' → a ≡ a' → Does k o (done k.LEN k.meaning l a m into) (burst k.meaning (sent_by a)) said offer e e' out out' place place'
    → Does k o (done k.LEN k.meaning l' a' m into') (burst k.meaning (sent_by a')) said offer e e' out out' place place'
does_same k o {l} {l'} {a} {a'} m {said} {offer} {e} {e'} {out} {out'} {place} {place'} into into' p q d =
    subst (λ (x : Option ℕ). Does k o (done k.LEN k.meaning x a' m into') (burst k.meaning (sent_by a')) said offer e e' out out' place place') p
    (subst (λ (x : Answer Done). Does k o (done k.LEN k.meaning l x m into') (burst k.meaning (sent_by x)) said offer e e' out out' place place') q
    (record { answer = d.answer; next = d.next; unchanged = d.unchanged; placed = d.placed; offered = d.offered; once = d.once }))

-- the burst that a medium gave arrives
pub arrived_is : (c : ℕ) (check : List ℕ → List ℕ) (e : End) (bs : List Burst) (b : Burst) → (length bs ≡ 0 → ⊥) → b ≡ first bs → arrival c check e b ≡ unless (arrival_rules bs) (arrival c check e (first bs))
arrived_is c check e bs b some is = ap (arrival c check e) is ∙ ap (λ (t : Bool). cond t (refused 26) (arrival c check e (first bs))) (sym (ne_eqb (length bs) 0 some))

-- a read-out
pub message_placed : (rs : List Rule) (m place : List ℕ) → or_kept (judged rs (copied m place)) place ≡ written_over (message_in (seen read (judged rs m))) place
message_placed [] m place = refl
message_placed (r ∷ rs) m place = go r.0 (message_placed rs m place)
  where
    go : (b : Bool) → or_kept (judged rs (copied m place)) place ≡ written_over (message_in (seen read (judged rs m))) place → or_kept (cond b (refused r.1) (judged rs (copied m place))) place ≡ written_over (message_in (seen read (cond b (refused r.1) (judged rs m)))) place
    go true h = refl
    go false h = h

pub given_is : (r : Result (Unit {0}) (Refusal × DeliverySlip)) → given r ≡ gave tt → IsOk r
given_is (Ok x) e = refl
given_is (Err x) e = never _ tt e

-- settings that changed
pub set_is : (r : Result (Unit {0}) Refusal) (a : Answer Settings) → answer (λ u. u) r ≡ set_answer a → answer (λ u. adopted) r ≡ seen (λ s. adopted) a
set_is (Ok x) (refused n) e = never n x (sym e)
set_is (Ok x) (gave s) e = refl
set_is (Err x) (refused n) e = ap (λ (m : ℕ). refused m) (refused_same e)
set_is (Err x) (gave s) e = never _ tt e

-- a medium that is not empty was taken from
pub taken_once : {M : Type 0} (o : medium.Ghosts M) (bs : List Burst) (m m' : M) → (length bs ≡ 0 → ⊥) → o.takes m m' → TakenOnce o bs m m'
taken_once o [] m m' some t = absurd (some refl)
taken_once o (b ∷ bs) m m' some t = t

pub message_told : (rs : List Rule) (m place place' : List ℕ) (t u : ℕ × ℕ × ℕ) → gave t ≡ judged rs u → u.0 ≡ length m → place' ≡ or_kept (judged rs (copied m place)) place → gave (read (take t.0 place')) ≡ seen read (judged rs m)
message_told rs m place place' t u h long p =
    let all = passed rs u t h in
    let size : t.0 ≡ length m = ap (λ (x : ℕ × ℕ × ℕ). x.0) (sym all.1) ∙ long in
    let is : place' ≡ copied m place = p ∙ ap (λ (a : Answer (List ℕ)). or_kept a place) (all_past rs (copied m place) all.0) in
    ap (λ (x : List ℕ). gave (read x)) (taken m place' (drop (length m) place) t.0 is size) ∙ ap (seen read) (sym (all_past rs m all.0))

-- the letter of a burst that is heard
letter_is : (c : ℕ) (check : List ℕ → List ℕ) (b : Burst) (r : Answer Parts) → r ≡ reading c check b → ((n : ℕ) → r ≡ refused n → ⊥) → letter_at b ≡ letter_of r
letter_is c check b (refused n) e h = absurd (h n refl)
letter_is c check b (gave (parts l p f)) e h =
    let at = read_letter c check b l p f e in
    ap (λ (x : ℕ). cond (known x) (Some x) None) at.0 ∙ ap (λ (t : Bool). cond t (Some l) None) at.1

pub letter_heard : (c : ℕ) (check : List ℕ → List ℕ) (e : End) (b : Burst) (t : Told) → gave t ≡ seen (telling check) (arrival c check e b) → letter_at b ≡ letter_of (reading c check b)
letter_heard c check e b t h = letter_is c check b (reading c check b) refl (λ n q. never n t (sym (h ∙ ap (λ (r : Answer Parts). seen (telling check) (after_reading e r)) q)))
