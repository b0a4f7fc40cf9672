-- A message under way gets its outcome within M + 1 timeouts. Assumes nothing.
use Rattle.std.proofs.Common.{◌≡◌, ℕ, ◌+◌, ◌-◌, ◌<◌, ◌≤◌, min, Bool, true, false, cond, ◌||◌, eqb, ltb, leb, List, [], ◌∷◌, length, get_or, Option, sym, refl, ap, ◌∙◌, subst, arith}
use mathlib.Core.Bool.{beq}
use Rattle.std.proofs.lemmas.Bool.{leb-false, false≢true}
use Rattle.packet.specs.Format.{Parts, parts, reading}
use Rattle.packet.specs.Refusals.{Answer, refused, gave}
use Rattle.packet.specs.declared.number.Number.TheVariants.{Zero, One}
use Rattle.packet.proofs.Judging.{passed}
use Rattle.primary.specs.Station as primary
use Rattle.primary.specs.Table.{cell, hears, rules, step_of, arrives, gives_up, asks, rests, sends_again, once_more}
use Rattle.station.proofs.Sendable.{same_phase}
use Rattle.secondary.specs.declared.reply.Answer.{Answer as Reply}
use Rattle.secondary.specs.Station as secondary
use Rattle.settings.specs.declared.values.Settings.{Settings}
use Rattle.settings.specs.Frame.{change_rules, settings_in}
use Rattle.station.specs.End as ends
use Rattle.station.specs.Runs.{Call, Submit, Arrive, Expire, Take, Give, Collect, Set, after}
use Rattle.station.specs.Waits.{settles, timeouts, call_settles, outcome_comes, InTime}

-- a step that gave the current message no outcome: it is still under way, and the attempts have not fallen below 255
pub record GoesOn (s : primary.Station) (d : primary.Did) : Type 0 where
  pub under_way : ends.awaiting d.next.phase ≡ true
  pub tried : min s.attempts 255 ≤ d.next.attempts

abbrev settled : primary.Did → Bool
settled d = ltb 0 (d.arrivals + d.give_ups)

arrives_settles : (ms : List (List ℕ)) (s : primary.Station) → settled (arrives ms s) ≡ true
arrives_settles [] s = refl
arrives_settles (m ∷ ms) s = refl

never : {A : Type 0} (b : Bool) → b ≡ true → b ≡ false → A
never b p q = absurd (false≢true (sym q ∙ p))

-- one of two ways, the first of which settles
way : (s : primary.Station) (b : Bool) (x y : primary.Did) → settled x ≡ true → GoesOn s y → settled (cond b x y) ≡ false → GoesOn s (cond b x y)
way s true x y p g q = never (settled x) p q
way s false x y p g q = g

stays : (s : primary.Station) → ends.awaiting s.phase ≡ true → GoesOn s (rests s)
stays s w = record { under_way = w; tried = omega arith }

cell_on : (M : ℕ) (s : primary.Station) (ph : primary.Phase) (h : primary.Heard) → s.phase ≡ ph → ends.awaiting ph ≡ true → settled (cell M s ph h) ≡ false → GoesOn s (cell M s ph h)
cell_on M s primary.off h e w q = never false w refl
cell_on M s primary.ready h e w q = never false w refl
cell_on M s (primary.waiting c ms) (primary.submission m) e w q = record { under_way = refl; tried = omega arith }
cell_on M s (primary.waiting c ms) primary.reset e w q = stays s (ap ends.awaiting e)
cell_on M s (primary.waiting c ms) (primary.ack n k) e w q = way s (beq n s.number) (arrives ms s) (rests s) (arrives_settles ms s) (stays s (ap ends.awaiting e)) q
cell_on M s (primary.waiting c ms) primary.timeout e w q = way s (leb M s.attempts) (gives_up ms s) (asks (primary.asking c ms) s) refl (record { under_way = refl; tried = omega arith }) q
cell_on M s (primary.asking c ms) (primary.submission m) e w q = record { under_way = refl; tried = omega arith }
cell_on M s (primary.asking c ms) primary.reset e w q = record { under_way = refl; tried = omega arith }
cell_on M s (primary.asking c ms) (primary.ack n k) e w q = way s (beq n s.number) (arrives ms s) (sends_again c ms s) (arrives_settles ms s) (record { under_way = refl; tried = omega arith }) q
cell_on M s (primary.asking c ms) primary.timeout e w q = way s (leb M s.attempts) (gives_up ms s) (asks (primary.asking c ms) s) refl (record { under_way = refl; tried = omega arith }) q

-- an end on which the current message is still under way
pub record Kept (e e' : ends.End) : Type 0 where
  pub under_way : ends.awaiting e'.primary.phase ≡ true
  pub limit : e'.settings.attempt_limit ≡ e.settings.attempt_limit
  pub tried : min e.primary.attempts 255 ≤ e'.primary.attempts

same : (e : ends.End) → ends.awaiting e.primary.phase ≡ true → Kept e e
same e w = record { under_way = w; limit = refl; tried = omega arith }

same_attempts : (h : primary.Heard) (s : primary.Station) → (hears h s).attempts ≡ s.attempts
same_attempts (primary.submission m) s = refl
same_attempts primary.reset s = refl
same_attempts (primary.ack n k) s = refl
same_attempts primary.timeout s = refl

step_kept : (e : ends.End) (h : primary.Heard) → ends.awaiting e.primary.phase ≡ true → settles (ends.hears e h) ≡ false → Kept e (ends.left_by (ends.hears e h) e)
step_kept e h w = go (step_of e.settings.attempt_limit e.primary h) refl
  where
    go : (a : Answer primary.Did) → a ≡ step_of e.settings.attempt_limit e.primary h → settles (ends.seen (ends.by_primary e) a) ≡ false → Kept e (ends.left_by (ends.seen (ends.by_primary e) a) e)
    go (refused n) is q = same e w
    go (gave d) is q =
        let s = e.primary in
        let M = e.settings.attempt_limit in
        let made = (passed (rules h s) (cell M (hears h s) s.phase h) d is).1 in
        let on = subst (λ (x : primary.Did). settled x ≡ false → GoesOn (hears h s) x) made (cell_on M (hears h s) s.phase h (same_phase h s) w) q in
        let a = same_attempts h s in
        record { under_way = on.under_way; limit = refl; tried = subst (λ (n : ℕ). min n 255 ≤ d.next.attempts) a on.tried }

-- the secondary station's calls leave the primary alone
answered : (e : ends.End) (s : secondary.Station) (a : Answer (Option Reply)) → ends.awaiting e.primary.phase ≡ true → Kept e (ends.left_by (ends.seen (ends.by_secondary e s) a) e)
answered e s (refused n) w = same e w
answered e s (gave r) w = record { under_way = w; limit = refl; tried = omega arith }

dispatch_kept : (e : ends.End) (l p : ℕ) (f : List ℕ) → ends.awaiting e.primary.phase ≡ true → settles (ends.dispatched e (parts l p f)) ≡ false → Kept e (ends.left_by (ends.dispatched e (parts l p f)) e)
dispatch_kept e l p f w = go (eqb l 0x45) (eqb l 0x30) (eqb l 0x31) (eqb l 0x41) (eqb l 0x42)
  where
    go : (a b c d x : Bool) → settles (cond a (ends.enq_heard e) (cond b (ends.data_heard e Zero f) (cond c (ends.data_heard e One f) (cond d (ends.hears e (primary.ack false (get_or f 0 0 - 0x30))) (cond x (ends.hears e (primary.ack true (get_or f 0 0 - 0x30))) (ends.hears e primary.reset)))))) ≡ false → Kept e (ends.left_by (cond a (ends.enq_heard e) (cond b (ends.data_heard e Zero f) (cond c (ends.data_heard e One f) (cond d (ends.hears e (primary.ack false (get_or f 0 0 - 0x30))) (cond x (ends.hears e (primary.ack true (get_or f 0 0 - 0x30))) (ends.hears e primary.reset)))))) e)
    go true b c d x q = record { under_way = w; limit = refl; tried = omega arith }
    go false true c d x q = answered e _ (secondary.data_answer (ends.limit e) Zero f e.secondary) w
    go false false true d x q = answered e _ (secondary.data_answer (ends.limit e) One f e.secondary) w
    go false false false true x q = step_kept e (primary.ack false (get_or f 0 0 - 0x30)) w q
    go false false false false true q = step_kept e (primary.ack true (get_or f 0 0 - 0x30)) w q
    go false false false false false q = step_kept e primary.reset w q

arrival_kept : (e : ends.End) (a : Answer Parts) → ends.awaiting e.primary.phase ≡ true → settles (ends.after_reading e a) ≡ false → Kept e (ends.left_by (ends.after_reading e a) e)
arrival_kept e (refused n) w q = same e w
arrival_kept e (gave (parts l p f)) w q = dispatch_kept e l p f w q

-- settings are refused while a message is under way
set_kept : (e : ends.End) (f : List ℕ) → ends.awaiting e.primary.phase ≡ true → Kept e (ends.set_by (ends.change e f) e)
set_kept e f w = go (ends.change e f) refl
  where
    go : (a : Answer Settings) → a ≡ ends.change e f → Kept e (ends.set_by a e)
    go (refused n) is = same e w
    go (gave s) is = never (ends.awaiting e.primary.phase) w (passed (change_rules f (ends.awaiting e.primary.phase) (length e.secondary.held)) (settings_in f) s is).0.1.1.1.1.1.1.0

module _ (c : ℕ) (check : List ℕ → List ℕ) where
  call_kept : (k : Call) (e : ends.End) → ends.awaiting e.primary.phase ≡ true → call_settles c check k e ≡ false → Kept e (after c check k e)
  call_kept (Submit m) e w q = step_kept e (primary.submission m) w q
  call_kept (Arrive b) e w q = arrival_kept e (reading c check b) w q
  call_kept Expire e w q = step_kept e primary.timeout w q
  call_kept (Take n) e w q = record { under_way = w; limit = refl; tried = omega arith }
  call_kept (Give line buffer) e w q = record { under_way = w; limit = refl; tried = omega arith }
  call_kept Collect e w q = record { under_way = w; limit = refl; tried = omega arith }
  call_kept (Set f) e w q = set_kept e f w

  -- a timeout without outcome is one attempt more, below the limit
  asked_again : (M : ℕ) (s : primary.Station) (m : List ℕ) (ms : List (List ℕ)) (b : Bool) → leb M s.attempts ≡ b → settled (cond b (gives_up ms s) (asks (primary.asking m ms) s)) ≡ false
      → (s.attempts < M) × ((cond b (gives_up ms s) (asks (primary.asking m ms) s)).next.attempts ≡ once_more s.attempts)
  asked_again M s m ms true is r = never true refl r
  asked_again M s m ms false is r = (leb-false M s.attempts is, refl)

  expired : (M : ℕ) (s : primary.Station) (ph : primary.Phase) → ends.awaiting ph ≡ true → settled (cell M s ph primary.timeout) ≡ false → (s.attempts < M) × ((cell M s ph primary.timeout).next.attempts ≡ once_more s.attempts)
  expired M s primary.off w q = never false w refl
  expired M s primary.ready w q = never false w refl
  expired M s (primary.waiting m ms) w q = asked_again M s m ms (leb M s.attempts) refl q
  expired M s (primary.asking m ms) w q = asked_again M s m ms (leb M s.attempts) refl q

  -- a call settles, or the others do
  one_more : (k : Call) (ks : List Call) (e : ends.End) → (call_settles c check k e ≡ false → outcome_comes c check (after c check k e) ks ≡ true) → outcome_comes c check e (k ∷ ks) ≡ true
  one_more k ks e rest = go (call_settles c check k e) refl
    where
      go : (b : Bool) → call_settles c check k e ≡ b → outcome_comes c check e (k ∷ ks) ≡ true
      go true is = ap (λ (b : Bool). b || outcome_comes c check (after c check k e) ks) is
      go false is = ap (λ (b : Bool). b || outcome_comes c check (after c check k e) ks) is ∙ rest is

  -- enough timeouts are to come
  abbrev Enough : ends.End → ℕ → Type 0
  Enough e t = (ends.awaiting e.primary.phase ≡ true) × (e.settings.attempt_limit ≤ 255) × (e.settings.attempt_limit < e.primary.attempts + t) × (1 ≤ t)

  still_enough : (e e' : ends.End) (t : ℕ) → Kept e e' → Enough e t → Enough e' t
  still_enough e e' t kept (w, s, h, o) =
      let l = kept.limit in
      let a = kept.tried in
      (kept.under_way, omega arith, omega arith, o)

  after_timeout : (e : ends.End) (t : ℕ) → call_settles c check Expire e ≡ false → Enough e (1 + t) → Enough (after c check Expire e) t
  after_timeout e t is (w, s, h, o) =
      let kept = call_kept Expire e w is in
      let more = expired e.settings.attempt_limit e.primary e.primary.phase w is in
      let few = more.0 in
      let a : (after c check Expire e).primary.attempts ≡ once_more e.primary.attempts = more.1 in
      (kept.under_way, s, omega arith, omega arith)

  timed : (ks : List Call) (e : ends.End) → Enough e (timeouts ks) → outcome_comes c check e ks ≡ true
  timed [] e (w, s, h, o) = absurd (omega arith)
  timed (Submit m ∷ ks) e n = one_more (Submit m) ks e (λ is. timed ks _ (still_enough e _ (timeouts ks) (call_kept (Submit m) e n.0 is) n))
  timed (Arrive b ∷ ks) e n = one_more (Arrive b) ks e (λ is. timed ks _ (still_enough e _ (timeouts ks) (call_kept (Arrive b) e n.0 is) n))
  timed (Expire ∷ ks) e n = one_more Expire ks e (λ is. timed ks _ (after_timeout e (timeouts ks) is n))
  timed (Take m ∷ ks) e n = one_more (Take m) ks e (λ is. timed ks _ (still_enough e _ (timeouts ks) (call_kept (Take m) e n.0 is) n))
  timed (Give line buffer ∷ ks) e n = one_more (Give line buffer) ks e (λ is. timed ks _ (still_enough e _ (timeouts ks) (call_kept (Give line buffer) e n.0 is) n))
  timed (Collect ∷ ks) e n = one_more Collect ks e (λ is. timed ks _ (still_enough e _ (timeouts ks) (call_kept Collect e n.0 is) n))
  timed (Set f ∷ ks) e n = one_more (Set f) ks e (λ is. timed ks _ (still_enough e _ (timeouts ks) (call_kept (Set f) e n.0 is) n))

  pub in_time : (e : ends.End) → e.settings.attempt_limit ≤ 255 → InTime c check e
  in_time e l w ks h = timed ks e (w, l, omega arith, omega arith)
