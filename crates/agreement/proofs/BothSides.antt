-- Both sides of a line: the invariant of each channel holds at the opening and after each call, and gives the promise.
use Rattle.std.proofs.Common.{◌≡◌, ℕ, suc, length-append, ◌+◌, ◌≤◌, Bool, true, false, cond, eqb, ltb, List, [], ◌∷◌, ◌++◌, length, drop, Some, None, Option, sym, refl, ap, ◌∙◌, subst, inl, inr, arith}
use Rattle.std.proofs.Math.Dec.{eqb-suc-zero}
use Rattle.std.proofs.lemmas.Bool.{eqb-true}
use Rattle.std.proofs.lemmas.List.{append-nil}
use Rattle.packet.specs.Checks.{Each, Altered}
use Rattle.packet.specs.Refusals.{Answer, refused, gave, ◌⇒◌, judged}
use Rattle.packet.proofs.Judging.{passed}
use Rattle.packet.proofs.Judging as judging
use Rattle.settings.specs.declared.values.Settings.{Settings}
use Rattle.settings.specs.Frame.{settings_in, settings_of, frame_rules}
use Rattle.primary.specs.Station as primary
use Rattle.secondary.specs.Buffers.{oldest_of}
use Rattle.secondary.specs.Station as secondary
use Rattle.medium.specs.declared.offer.Offer.{Offer}
use Rattle.station.specs.End as ends
use Rattle.agreement.specs.declared.sides.Side.{Side}
use Rattle.agreement.specs.declared.sides.Side.TheVariants.{West, East}
use Rattle.agreement.specs.Line.{Burst, across, side_number, side_answer, Line, end_at, out_of}
use Rattle.agreement.specs.Calls.{Call, ReadOut, Said, read, Acted, acted, burst_of, Offers, Turn, TurnAt, Step}
use Rattle.agreement.specs.Opening.{both, then_judged, opening_rules, settings_agreed, both_opened}
use Rattle.agreement.specs.Transcript.{Transcript, opened, then, Fate, unsettled, Accepted, accepted, Ledger, settings_after, last_after, ledger_after, outcomes_in, settings_now, last_answer, read_by, outcome_count, ledger}
use Rattle.agreement.specs.Stored.{Gives, no_more, one_more, Bears, Meets, Picks, none_left, picked, passed_by}
use Rattle.agreement.specs.InTime.{InTime}
use Rattle.agreement.specs.Promise.{Reached, at_opening, after, KeptFor, Kept}
use Rattle.agreement.proofs.Channel.{Reply, Empty, PickedAlways, Rest, Queue, Here, Current, Flow, quiet, command_out, AnyReply, IsENQ, Inv, InvOf, Went, not_sent, lost, through, not_borne, in_time}
use Rattle.agreement.proofs.Counts.{size, accepted_in, ledger_size}
use Rattle.agreement.proofs.Readings.{commands_in, replies_in, offers_found}
use Rattle.agreement.proofs.OneEnd.{Sound, last_of, commands, replies, Goes, goes, frame_limit}

-- from the invariant of a channel to the promise
picks_joined : {now : Reply} {cs : List Accepted} {base : List (List ℕ)} (ws : List Accepted) (more : List (List ℕ)) → Picks now cs base → Picks now ws more → Picks now (cs ++ ws) (base ++ more)
picks_joined ws more none_left q = q
picks_joined ws more (picked k p) q = picked k (picks_joined ws more p q)
picks_joined ws more (passed_by k p) q = passed_by k (picks_joined ws more p q)

rest_passed : (l : Reply) (ms : List (List ℕ)) (es : List Accepted) → Rest ms es → Picks l es []
rest_passed l [] [] r = none_left
rest_passed l [] (e ∷ es) r = absurd r
rest_passed l (m ∷ ms) [] r = absurd r
rest_passed l (m ∷ ms) (e ∷ es) r = passed_by (subst (λ (f : Fate). Meets l e.number f → ⊥) (sym r.0.2) (not_borne l e.number r.0.1)) (rest_passed l ms es r.1)

meets_if_borne : (l : Reply) (n : Bool) (e : Accepted) → e.number ≡ Some n → e.fate ≡ unsettled → Meets l e.number e.fate ≡ Bears l (Some n)
meets_if_borne l n e p q = ap (λ (f : Fate). Meets l e.number f) q ∙ ap (λ (k : Reply). Bears l k) p

current_picks : (l : Reply) (n : Bool) (c : List ℕ) (ms st : List (List ℕ)) (cs ws : List Accepted) (base : List (List ℕ)) → Picks l cs base → Here l n c st base → Queue n c ms ws → Picks l (cs ++ ws) st
current_picks l n c ms st cs [] base p h q = absurd q
current_picks l n c ms st cs (e ∷ es) base p (inl h) q =
    subst (λ (x : List (List ℕ)). Picks l (cs ++ e ∷ es) x) (ap (λ (x : List ℕ). base ++ x ∷ []) q.0.0 ∙ sym h.1)
    (picks_joined (e ∷ es) (e.message ∷ []) p (picked (subst (λ (X : Type 0). X) (sym (meets_if_borne l n e q.0.1 q.0.2)) h.0) (rest_passed l ms es q.1)))
current_picks l n c ms st cs (e ∷ es) base p (inr h) q =
    subst (λ (x : List (List ℕ)). Picks l (cs ++ e ∷ es) x) (append-nil base ∙ sym h.1)
    (picks_joined (e ∷ es) [] p (passed_by (λ b. h.0 (subst (λ (X : Type 0). X) (meets_if_borne l n e q.0.1 q.0.2) b)) (rest_passed l ms es q.1)))

-- the messages without outcome are those that the primary station has
rest_length : (ms : List (List ℕ)) (es : List Accepted) → Rest ms es → length es ≡ length ms
rest_length [] [] r = refl
rest_length [] (e ∷ es) r = absurd r
rest_length (m ∷ ms) [] r = absurd r
rest_length (m ∷ ms) (e ∷ es) r = ap suc (rest_length ms es r.1)

queue_length : (n : Bool) (c : List ℕ) (ms : List (List ℕ)) (ws : List Accepted) → Queue n c ms ws → length ws ≡ suc (length ms)
queue_length n c ms [] q = absurd q
queue_length n c ms (e ∷ es) q = ap suc (rest_length ms es q.1)

none_wait : (l : Reply) (st : List (List ℕ)) (cs ws : List Accepted) → Empty ws → PickedAlways cs st → Picks l (cs ++ ws) st × InTime ws × (length ws ≡ 0)
none_wait l st cs [] h p = (subst (λ (x : List Accepted). Picks l x st) (sym (append-nil cs)) (p l), tt, refl)
none_wait l st cs (e ∷ ws) h p = absurd h

current_kept : (n : Bool) (a M : ℕ) (l : Reply) (c : List ℕ) (ms st : List (List ℕ)) (cs ws : List Accepted) → Current n a M l c ms st cs ws → Picks l (cs ++ ws) st × InTime ws × (length ws ≡ suc (length ms))
current_kept n a M l c ms st cs ws i = (current_picks l n c ms st cs ws i.base (i.picks l) i.here i.queue, in_time M i.t 0 ws i.below i.due, queue_length n c ms ws i.queue)

channel_kept : (ph : primary.Phase) (n : Bool) (a M : ℕ) (l : Reply) (C : List primary.Command) (R : List Reply) (st : List (List ℕ)) (cs ws : List Accepted) → Inv ph n a M l C R st cs ws → Picks l (cs ++ ws) st × InTime ws × (length ws ≡ length (primary.unsettled_in ph))
channel_kept primary.off n a M l C R st cs ws i = none_wait l st cs ws i.1 i.2
channel_kept primary.ready n a M l C R st cs ws i = none_wait l st cs ws i.2 i.3
channel_kept (primary.waiting c ms) n a M l C R st cs ws i = current_kept n a M l c ms st cs ws i.1
channel_kept (primary.asking c ms) n a M l C R st cs ws i = current_kept n a M l c ms st cs ws i.1

same : {A : Type 0} (b : Bool) (x : A) → cond b x x ≡ x
same true x = refl
same false x = refl

-- the accepted messages are those that got an outcome and those without one
near_counted : (k : Call) (a : Answer Said) (l : Reply) (M : ℕ) (g : Ledger) (told before left : ℕ) → size g ≡ told + before → before + accepted_in k a ≡ outcomes_in a + left
    → size (ledger_after k a l M g) ≡ (told + outcomes_in a) + left
near_counted k a l M g told before left h q = let e = ledger_size k a l M g in omega arith

off_count : (b : Bool) (n : ℕ) → n ≡ cond b (n + 0) n
off_count true n = omega arith
off_count false n = refl

-- an opening takes both frames
pub opened_by : (w e : List ℕ) (eastward westward : List Burst) (s : Settings × Settings) → gave s ≡ settings_agreed w e eastward westward
    → (settings_of w ≡ gave s.0) × (settings_of e ≡ gave s.1) × (gave s ≡ judged (opening_rules eastward westward) s)
opened_by w e eastward westward s = go (settings_of w) (settings_of e) refl refl
  where
    go : (a b : Answer Settings) → settings_of w ≡ a → settings_of e ≡ b → gave s ≡ then_judged (opening_rules eastward westward) (both a b) → (settings_of w ≡ gave s.0) × (settings_of e ≡ gave s.1) × (gave s ≡ judged (opening_rules eastward westward) s)
    go (refused n) b p q h = judging.never n s (sym h)
    go (gave x) (refused n) p q h = judging.never n s (sym h)
    go (gave x) (gave y) p q h =
        let is = (passed (opening_rules eastward westward) (x, y) s h).1 in
        (p ∙ ap (λ (z : Settings × Settings). gave z.0) is, q ∙ ap (λ (z : Settings × Settings). gave z.1) is, h ∙ ap (λ (z : Settings × Settings). judged (opening_rules eastward westward) z) is)

frame_is : (f : List ℕ) (s : Settings) → settings_of f ≡ gave s → (settings_in f ≡ s) × (s.attempt_limit ≤ 255)
frame_is f s h =
    let all = passed (frame_rules f) (settings_in f) s (sym h) in
    (all.1, subst (λ (x : Settings). x.attempt_limit ≤ 255) all.1 (frame_limit f all.0.1.1.1.1.0))

-- what a read-out tells of the messages held
abbrev oldest_told : List (List ℕ) → Answer (List ℕ)
oldest_told [] = refused 23
oldest_told (m ∷ ms) = gave m

oldest_is : (x : secondary.Station) (ms : List (List ℕ)) → x.held ≡ ms → x.out ≡ false → judged (secondary.take_rules 96 x) (oldest_of x.held) ≡ oldest_told ms
oldest_is x ms h o =
    ap (λ (b : Bool). judged (ltb 96 96 ⇒ 21 ∷ b ⇒ 22 ∷ eqb (length x.held) 0 ⇒ 23 ∷ []) (oldest_of x.held)) o
    ∙ ap (λ (hs : List (List ℕ)). judged (eqb (length hs) 0 ⇒ 23 ∷ []) (oldest_of hs)) h ∙ told ms
  where
    told : (ms : List (List ℕ)) → judged (eqb (length ms) 0 ⇒ 23 ∷ []) (oldest_of ms) ≡ oldest_told ms
    told [] = refl
    told (m ∷ ms) = ap (λ (b : Bool). judged (b ⇒ 23 ∷ []) m) (eqb-suc-zero (length ms))

read_leaves : (x : secondary.Station) (m : List ℕ) (ms : List (List ℕ)) → x.held ≡ m ∷ ms → x.out ≡ false → ((secondary.after_reading 96 x).held ≡ ms) × ((secondary.after_reading 96 x).out ≡ false)
read_leaves x m ms h o =
    let goes = judging.all_past (secondary.take_rules 96 x) (secondary.freed x) (refl, (o, (ap (λ (hs : List (List ℕ)). eqb (length hs) 0) h ∙ eqb-suc-zero (length ms), tt))) in
    let is = ap (λ (a : Answer secondary.Station). secondary.or_kept a x) goes in
    (ap (λ (y : secondary.Station). y.held) is ∙ ap (drop 1) h, ap (λ (y : secondary.Station). y.out) is)

-- the line with a side's end, the bursts from it and the bursts toward it replaced
abbrev changed : Side → ends.End → List Burst → List Burst → Line → Line
changed West e out into l = record { west_end = e; east_end = l.east_end; eastward = out; westward = into }
changed East e out into l = record { west_end = l.west_end; east_end = e; eastward = into; westward = out }

at_number : (n : ℕ) (s : Side) → side_answer n ≡ gave s → n ≡ side_number s
at_number n s = go (eqb n 0) (eqb n 1) refl refl s
  where
    go : (a b : Bool) → eqb n 0 ≡ a → eqb n 1 ≡ b → (s : Side) → cond a (gave West) (cond b (gave East) (refused 25)) ≡ gave s → n ≡ side_number s
    go true b p q West e = eqb-true n 0 p
    go true b p q East e = let z : ◌≡◌ {A = ℕ} 0 1 = cc in absurd (omega arith)
    go false true p q East e = eqb-true n 1 q
    go false true p q West e = let z : ◌≡◌ {A = ℕ} 0 1 = cc in absurd (omega arith)
    go false false p q s e = judging.never 25 s e

-- by a kind with c check bytes
module _ (c : ℕ) (check : List ℕ → List ℕ) where
  -- the invariant of a line, for the channel of which s is the near side
  pub record Good (s : Side) (h : Transcript) (l : Line) : Type 0 where
    pub last_is : last_answer (across s) h ≡ last_of (end_at (across s) l)
    pub settings_is : settings_now s h ≡ (end_at s l).settings
    pub counted : size (ledger s h) ≡ outcome_count s h + length (primary.unsettled_in (end_at s l).primary.phase)
    pub inv : InvOf (end_at s l).primary (end_at s l).settings.attempt_limit (last_of (end_at (across s) l)) (commands c check (out_of s l)) (replies c check (out_of (across s) l))
        (read_by (across s) h ++ (end_at (across s) l).secondary.held) (ledger s h)

  pub record AllGood (h : Transcript) (l : Line) : Type 0 where
    pub of_west : Good West h l
    pub of_east : Good East h l
    pub west_sound : Sound l.west_end
    pub east_sound : Sound l.east_end

  -- the ledger as the transcript has it
  ledger_told : (p : primary.Station) (N : ℕ) (l l' : Reply) (M M' : ℕ) (C : List primary.Command) (R : List Reply) (st : List (List ℕ)) (k : Call) (a : Answer Said) (g : Ledger) → l' ≡ l → M' ≡ M
      → InvOf p N l C R st (ledger_after k a l M g) → InvOf p N l C R st (ledger_after k a l' M' g)
  ledger_told p N l l' M M' C R st k a g q r i =
      subst (λ (x : ℕ). InvOf p N l C R st (ledger_after k a l' x g)) (sym r) (subst (λ (x : Reply). InvOf p N l C R st (ledger_after k a x M g)) (sym q) i)

  -- a call at no side changes no word
  off_good : (s : Side) (h : Transcript) (l : Line) (n : ℕ) (k : Call) (m : ℕ) → Good s h l → Good s (then h n k (refused m) None) l
  off_good s h l n k m g =
      record {
        last_is = same (eqb n (side_number (across s))) (last_answer (across s) h) ∙ g.last_is;
        settings_is = same (eqb n (side_number s)) (settings_now s h) ∙ g.settings_is;
        counted = ap size (same (eqb n (side_number s)) (ledger s h)) ∙ g.counted ∙ ap (λ (x : ℕ). x + length (primary.unsettled_in (end_at s l).primary.phase)) (off_count (eqb n (side_number s)) (outcome_count s h));
        inv =
            let p = (end_at s l).primary in
            let M = (end_at s l).settings.attempt_limit in
            let f = end_at (across s) l in
            subst (λ (y : Ledger). InvOf p M (last_of f) (commands c check (out_of s l)) (replies c check (out_of (across s) l)) (cond (eqb n (side_number (across s))) (read_by (across s) h) (read_by (across s) h) ++ f.secondary.held) y)
            (sym (same (eqb n (side_number s)) (ledger s h)))
            (subst (λ (y : List (List ℕ)). InvOf p M (last_of f) (commands c check (out_of s l)) (replies c check (out_of (across s) l)) (y ++ f.secondary.held) (ledger s h))
            (sym (same (eqb n (side_number (across s))) (read_by (across s) h))) g.inv);
      }

  -- with those of the kind's facts that are used
  module _ (sized : (xs : List ℕ) → length (check xs) ≡ c) (tells : (xs ys : List ℕ) → Each 0 0x7f xs → Each 0 0x7f ys → Altered xs ys → check xs ≡ check ys → ⊥) where
    commands_went : (o : Option Offer) (w w' : List Burst) {k : Call} {e : ends.End} {CO : List primary.Command} {RO : List Reply} {CI : List primary.Command} {RI : List Reply} {x : Acted}
        → (G : Goes c check k e CO RO CI RI x) → Offers w (burst_of check x.sent) o w' → Went G.command (commands c check w) (commands c check w')
    commands_went o w w' {x = x} G q = offers_found c check sized tells commands_in (λ n. refl) x.sent o w w' G.command G.fits G.as_command q

    replies_went : (o : Option Offer) (w w' : List Burst) {k : Call} {e : ends.End} {CO : List primary.Command} {RO : List Reply} {CI : List primary.Command} {RI : List Reply} {x : Acted}
        → (G : Goes c check k e CO RO CI RI x) → Offers w (burst_of check x.sent) o w' → Went G.reply (replies c check w) (replies c check w')
    replies_went o w w' {x = x} G q = offers_found c check sized tells replies_in (λ n. refl) x.sent o w w' G.reply G.fits G.as_reply q

    -- the call is at the near side
    near_good : (s : Side) (h : Transcript) (l : Line) (k : Call) (o : Option Offer) (out : List Burst) → Sound (end_at s l) → Good s h l → Offers (out_of s l) (burst_of check (acted c check s k l).sent) o out
        → Good s (then h (side_number s) k (acted c check s k l).answer o) (changed s (acted c check s k l).next out (acted c check s k l).into l)
    near_good West h l k o out s g w =
        let x = acted c check West k l in
        let G = goes c check l.west_end s k l.eastward l.westward in
        let f = l.east_end in
        let M = l.west_end.settings.attempt_limit in
        record {
          last_is = g.last_is;
          settings_is = ap (settings_after k x.answer) g.settings_is ∙ G.settings_told;
          counted = near_counted k x.answer (last_answer (across West) h) (settings_now West h).attempt_limit (ledger West h) (outcome_count West h) _ _ g.counted G.counted;
          inv = ledger_told x.next.primary x.next.settings.attempt_limit (last_of f) (last_answer East h) M (settings_now West h).attempt_limit (commands c check out) (replies c check x.into) (read_by East h ++ f.secondary.held) k x.answer (ledger West h) g.last_is (ap (λ (x : Settings). x.attempt_limit) g.settings_is)
              (G.near (last_of f) (read_by East h ++ f.secondary.held) (ledger West h) (commands c check out) g.inv (commands_went o l.eastward out G w));
        }
    near_good East h l k o out s g w =
        let x = acted c check East k l in
        let G = goes c check l.east_end s k l.westward l.eastward in
        let f = l.west_end in
        let M = l.east_end.settings.attempt_limit in
        record {
          last_is = g.last_is;
          settings_is = ap (settings_after k x.answer) g.settings_is ∙ G.settings_told;
          counted = near_counted k x.answer (last_answer (across East) h) (settings_now East h).attempt_limit (ledger East h) (outcome_count East h) _ _ g.counted G.counted;
          inv = ledger_told x.next.primary x.next.settings.attempt_limit (last_of f) (last_answer West h) M (settings_now East h).attempt_limit (commands c check out) (replies c check x.into) (read_by West h ++ f.secondary.held) k x.answer (ledger East h) g.last_is (ap (λ (x : Settings). x.attempt_limit) g.settings_is)
              (G.near (last_of f) (read_by West h ++ f.secondary.held) (ledger East h) (commands c check out) g.inv (commands_went o l.westward out G w));
        }

    -- the call is at the far side
    far_good : (s : Side) (h : Transcript) (l : Line) (k : Call) (o : Option Offer) (out : List Burst) → Sound (end_at s l) → Good (across s) h l → Offers (out_of s l) (burst_of check (acted c check s k l).sent) o out
        → Good (across s) (then h (side_number s) k (acted c check s k l).answer o) (changed s (acted c check s k l).next out (acted c check s k l).into l)
    far_good West h l k o out s g w =
        let x = acted c check West k l in
        let G = goes c check l.west_end s k l.eastward l.westward in
        record {
          last_is = ap (last_after x.answer) g.last_is ∙ G.last_told;
          settings_is = g.settings_is;
          counted = g.counted;
          inv = G.far l.east_end.primary l.east_end.settings.attempt_limit (read_by West h) (ledger East h) (replies c check out) g.inv (replies_went o l.eastward out G w);
        }
    far_good East h l k o out s g w =
        let x = acted c check East k l in
        let G = goes c check l.east_end s k l.westward l.eastward in
        record {
          last_is = ap (last_after x.answer) g.last_is ∙ G.last_told;
          settings_is = g.settings_is;
          counted = g.counted;
          inv = G.far l.west_end.primary l.west_end.settings.attempt_limit (read_by East h) (ledger West h) (replies c check out) g.inv (replies_went o l.westward out G w);
        }

    turn_good : (s : Side) {h : Transcript} {l : Line} (k : Call) (o : Option Offer) (out : List Burst) → AllGood h l → Offers (out_of s l) (burst_of check (acted c check s k l).sent) o out
        → AllGood (then h (side_number s) k (acted c check s k l).answer o) (changed s (acted c check s k l).next out (acted c check s k l).into l)
    turn_good West {h} {l} k o out g w =
        record {
          of_west = near_good West h l k o out g.west_sound g.of_west w;
          of_east = far_good West h l k o out g.west_sound g.of_east w;
          west_sound = (goes c check l.west_end g.west_sound k l.eastward l.westward).sound;
          east_sound = g.east_sound;
        }
    turn_good East {h} {l} k o out g w =
        record {
          of_west = far_good East h l k o out g.east_sound g.of_west w;
          of_east = near_good East h l k o out g.east_sound g.of_east w;
          west_sound = g.west_sound;
          east_sound = (goes c check l.east_end g.east_sound k l.westward l.eastward).sound;
        }

    line_is : (s : Side) (k : Call) (l l' : Line) (a : Answer Said) (o : Option Offer) → Turn c check s k l a o l' → changed s (acted c check s k l).next (out_of s l') (acted c check s k l).into l ≡ l'
    line_is West k l l' a o t = λ i. record { west_end = sym t.near i; east_end = sym t.far i; eastward = l'.eastward; westward = sym t.into i }
    line_is East k l l' a o t = λ i. record { west_end = sym t.far i; east_end = sym t.near i; eastward = sym t.into i; westward = l'.westward }

    pub step_good : {h : Transcript} {l : Line} (l' : Line) (n : ℕ) (k : Call) (a : Answer Said) (o : Option Offer) → AllGood h l → Step c check l n k a o l' → AllGood (then h n k a o) l'
    step_good {h} {l} l' n k a o g = go (side_answer n) refl
      where
        go : (x : Answer Side) → side_answer n ≡ x → TurnAt c check x k l a o l' → AllGood (then h n k a o) l'
        go (refused m) e t =
            subst (λ (x : Line). AllGood (then h n k a o) x) (sym t.same)
            (subst (λ (b : Answer Said). AllGood (then h n k b o) l) (sym t.answer)
            (subst (λ (p : Option Offer). AllGood (then h n k (refused m) p) l) (sym t.offer)
            (record { of_west = off_good West h l n k m g.of_west; of_east = off_good East h l n k m g.of_east; west_sound = g.west_sound; east_sound = g.east_sound })))
        go (gave s) e t =
            subst (λ (m : Line). AllGood (then h n k a o) m) (line_is s k l l' a o t)
            (subst (λ (b : Answer Said). AllGood (then h n k b o) (changed s (acted c check s k l).next (out_of s l') (acted c check s k l).into l)) (sym t.answer)
            (subst (λ (i : ℕ). AllGood (then h i k (acted c check s k l).answer o) (changed s (acted c check s k l).next (out_of s l') (acted c check s k l).into l)) (sym (at_number n s e))
            (turn_good s k o (out_of s l') g t.out)))

    -- the opening: each end sends ENQ over its empty medium
    opened_commands : (o : Option Offer) (w : List Burst) → Offers [] (burst_of check (Some (0x45, []))) o w → Went (Some primary.ENQ) [] (commands c check w)
    opened_commands o w x = offers_found c check sized tells commands_in (λ n. refl) (Some (0x45, [])) o [] w (Some primary.ENQ) (record { letter = refl; size = refl; bytes = refl }) refl x

    opened_replies : (o : Option Offer) (w : List Burst) → Offers [] (burst_of check (Some (0x45, []))) o w → Went None [] (replies c check w)
    opened_replies o w x = offers_found c check sized tells replies_in (λ n. refl) (Some (0x45, [])) o [] w None (record { letter = refl; size = refl; bytes = refl }) refl x

    opened_flow : {C : List primary.Command} {R : List Reply} → Went (Some primary.ENQ) [] C → Went None [] R → Flow IsENQ AnyReply None C R
    opened_flow lost not_sent = quiet
    opened_flow through not_sent = command_out tt

    opened_good : (w e : List ℕ) (s : Settings × Settings) (o p : Option Offer) (eastward westward : List Burst) → settings_of w ≡ gave s.0 → settings_of e ≡ gave s.1
        → Offers [] (burst_of check (Some (0x45, []))) o eastward → Offers [] (burst_of check (Some (0x45, []))) p westward
        → AllGood (opened w e o p) (record { west_end = (ends.opened 0 s.0).next; east_end = (ends.opened 1 s.1).next; eastward = eastward; westward = westward })
    opened_good w e s o p eastward westward m n x y =
        let u = frame_is w s.0 m in
        let v = frame_is e s.1 n in
        record {
          of_west = record {
            last_is = refl;
            settings_is = u.0;
            counted = refl;
            inv = (opened_flow (opened_commands o eastward x) (opened_replies p westward y), tt, λ now. none_left);
          };
          of_east = record {
            last_is = refl;
            settings_is = v.0;
            counted = refl;
            inv = (opened_flow (opened_commands p westward y) (opened_replies o eastward x), tt, λ now. none_left);
          };
          west_sound = record { sendable = refl; limited = u.1; none_out = refl };
          east_sound = record { sendable = refl; limited = v.1; none_out = refl };
        }

    opening_good : (w e : List ℕ) (d : ends.Done × ends.Done) (o p : Option Offer) (eastward westward : List Burst) (a : Answer (Settings × Settings)) → a ≡ settings_agreed w e [] [] → ends.seen both_opened a ≡ gave d
        → Offers [] (burst_of check d.0.sent) o eastward → Offers [] (burst_of check d.1.sent) p westward
        → AllGood (opened w e o p) (record { west_end = d.0.next; east_end = d.1.next; eastward = eastward; westward = westward })
    opening_good w e d o p eastward westward (refused n) is h x y = judging.never n d h
    opening_good w e d o p eastward westward (gave s) is h x y =
        let at = opened_by w e [] [] s is in
        let same : both_opened s ≡ d = inside h in
        subst (λ (z : ends.Done × ends.Done). AllGood (opened w e o p) (record { west_end = z.0.next; east_end = z.1.next; eastward = eastward; westward = westward })) same
        (opened_good w e s o p eastward westward at.0 at.1 (subst (λ (z : ends.Done × ends.Done). Offers [] (burst_of check z.0.sent) o eastward) (sym same) x) (subst (λ (z : ends.Done × ends.Done). Offers [] (burst_of check z.1.sent) p westward) (sym same) y))
      where
        inside : {x y : ends.Done × ends.Done} → gave x ≡ gave y → x ≡ y
        inside e = cc

    pub good : {h : Transcript} {l : Line} → Reached c check h l → AllGood h l
    good (at_opening {w} {e} d {o} {p} {eastward} {westward} h a b) = opening_good w e d o p eastward westward (settings_agreed w e [] []) refl h a b
    good (after l {n} {k} {a} {o} r s) = step_good _ n k a o (good r) s

  -- what further read-outs would give
  abbrev left : Side → Line → Line
  left s l = changed s (acted c check s (ReadOut 96) l).next (out_of s l) (acted c check s (ReadOut 96) l).into l

  read_out_step : (s : Side) (l : Line) (ms : List (List ℕ)) → (end_at s l).secondary.held ≡ ms → (end_at s l).secondary.out ≡ false → Step c check l (side_number s) (ReadOut 96) (ends.seen read (oldest_told ms)) None (left s l)
  read_out_step West l ms h o = record { answer = ap (ends.seen read) (sym (oldest_is l.west_end.secondary ms h o)); near = refl; far = refl; out = refl; into = refl }
  read_out_step East l ms h o = record { answer = ap (ends.seen read) (sym (oldest_is l.east_end.secondary ms h o)); near = refl; far = refl; out = refl; into = refl }

  pub gives : (s : Side) (ms : List (List ℕ)) (l : Line) → (end_at s l).secondary.held ≡ ms → (end_at s l).secondary.out ≡ false → Gives c check s l ms
  gives s [] l h o = no_more (left s l) (read_out_step s l [] h o)
  gives West (m ∷ ms) l h o = let rest = read_leaves l.west_end.secondary m ms h o in one_more (left West l) (read_out_step West l (m ∷ ms) h o) (gives West ms (left West l) rest.0 rest.1)
  gives East (m ∷ ms) l h o = let rest = read_leaves l.east_end.secondary m ms h o in one_more (left East l) (read_out_step East l (m ∷ ms) h o) (gives East ms (left East l) rest.0 rest.1)

  kept_for : (s : Side) (h : Transcript) (l : Line) → Good s h l → Sound (end_at (across s) l) → KeptFor c check s h l
  kept_for s h l g sound =
      let p = (end_at s l).primary in
      let f = end_at (across s) l in
      let k = channel_kept p.phase p.number p.attempts (end_at s l).settings.attempt_limit (last_of f) (commands c check (out_of s l)) (replies c check (out_of (across s) l))
      (read_by (across s) h ++ f.secondary.held) (ledger s h).closed (ledger s h).waits g.inv in
      let stored = subst (λ (x : Reply). Picks x (accepted (ledger s h)) (read_by (across s) h ++ f.secondary.held)) (sym g.last_is) k.0 in
      record {
        more = f.secondary.held;
        would_give = gives (across s) f.secondary.held l refl sound.none_out;
        stored = stored;
        read_in_order = (f.secondary.held, stored);
        in_time = k.1;
        outcomes = let e = g.counted in let w = k.2 in let a = length-append (ledger s h).closed (ledger s h).waits in omega arith;
        no_more_outcomes = let e = g.counted in omega arith;
      }

  pub kept : {h : Transcript} {l : Line} → AllGood h l → Kept c check h l
  kept {h} {l} g = record { from_west = kept_for West h l g.of_west g.east_sound; from_east = kept_for East h l g.of_east g.west_sound }
