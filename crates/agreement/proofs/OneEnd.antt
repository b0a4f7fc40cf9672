-- One call at one end: what it does to the channel of which the end is the near side, and to the one of which it is the far
-- side.
use Rattle.std.proofs.Common.{◌≡◌, ℕ, ◌+◌, ◌-◌, ◌≤◌, Bool, true, false, cond, not, ◌||◌, eqb, ltb, leb, List, [], ◌∷◌, ◌++◌, length, get_or, drop, Some, None, Option, sym, refl, ap, ◌∙◌, subst, arith}
use Rattle.std.specs.Option.{option_map}
use Rattle.std.proofs.Math.Dec.{eqb-suc-zero}
use Rattle.std.proofs.lemmas.Bool.{leb-true, and_parts, not-false}
use Rattle.std.proofs.lemmas.List.{append_assoc}
use Rattle.packet.specs.Format.{Parts, parts, packet, reading}
use Rattle.packet.specs.Letters.{between}
use Rattle.packet.specs.Numbers.{is_one}
use Rattle.packet.specs.Refusals.{Answer, refused, gave, ◌⇒◌, judged}
use Rattle.packet.specs.declared.number.Number.{Number}
use Rattle.packet.specs.declared.number.Number.TheVariants.{Zero, One}
use Rattle.packet.proofs.Judging.{passed}
use Rattle.settings.specs.declared.values.Settings.{Settings}
use Rattle.settings.specs.Frame.{settings_in, change_rules}
use Rattle.primary.specs.Rules.{oldest}
use Rattle.primary.specs.Station as primary
use Rattle.primary.specs.Station.{unsettled_in}
use Rattle.primary.specs.Table.{credited, cell, rules, step_of, collected as collected_from}
use Rattle.secondary.specs.declared.reply.Answer.{Answer as Response}
use Rattle.secondary.specs.declared.reply.Answer.TheVariants.{Reset, Ack}
use Rattle.secondary.specs.Buffers.{oldest_of}
use Rattle.secondary.specs.Station as secondary
use Rattle.medium.specs.Bursts.{some_letter}
use Rattle.medium.specs.Letters as letters
use Rattle.station.specs.End as ends
use Rattle.station.specs.Reports.{telling}
use Rattle.agreement.specs.Line.{Burst}
use Rattle.agreement.specs.Calls.{Call, Submit, Arrive, Expire, ReadOut, Collect, Set, reported, read, collected, adopted, Acted, unless, letter_of, done, act}
use Rattle.agreement.specs.Transcript.{Ledger, asked, sent_told, ledger_after, settings_after, last_after, answer_told, read_after, outcomes_in}
use Rattle.agreement.proofs.Channel.{Reply, Empty, InvOf, noted, sent_noted, Went, not_sent, never, submission_keeps, reset_keeps, ack_keeps, timeout_keeps, limit_free, enq_answered, ignored, data_stored}
use Rattle.agreement.proofs.Readings.{commands_in, replies_in, Fits, as_list, new, found, or_parts, no_commands, no_replies, command_new, command_quiet, reply_of, response_new, response_quiet}
use Rattle.agreement.proofs.Counts.{cell_counted, asks_one, accepted_in}
use Rattle.station.proofs.Sendable.{Sendable, heard_valid}
use Rattle.agreement.proofs.Sends.{Fair, ack_fits, response_fits, cell_fair}

-- what is known of an end of a line
pub record Sound (e : ends.End) : Type 0 where
  pub sendable : Sendable e.primary.phase
  pub limited : e.settings.attempt_limit ≤ 255
  pub none_out : e.secondary.out ≡ false

-- a call that is refused leaves the end as it was
abbrev pub turned_away : ℕ → ends.End → List Burst → Acted
turned_away n e into = record { next = e; into = into; sent = None; answer = refused n }

-- the last answer of an end
abbrev pub last_of : ends.End → Reply
last_of e = option_map is_one e.secondary.last

keep : {X : Type 0} {x y : List X} (P : List X → Type 0) → Went None x y → P x → P y
keep P not_sent h = h

-- the letter and length that are told of a packet
abbrev in_brief : (List ℕ → List ℕ) → Option (ℕ × List ℕ) → Option (ℕ × ℕ)
in_brief check s = option_map (λ p. (p.0, length (packet check p.0 p.1))) s

module _ (check : List ℕ → List ℕ) where
  command_noted : (q : Option primary.Command) (g : Ledger) → sent_told (in_brief check (option_map ends.command_parts q)) g ≡ sent_noted q g
  command_noted None g = refl
  command_noted (Some primary.ENQ) g = refl
  command_noted (Some (primary.DATA false m)) g = refl
  command_noted (Some (primary.DATA true m)) g = refl

  command_no_answer : (q : Option primary.Command) (l : Reply) → answer_told (in_brief check (option_map ends.command_parts q)) l ≡ l
  command_no_answer None l = refl
  command_no_answer (Some primary.ENQ) l = refl
  command_no_answer (Some (primary.DATA false m)) l = refl
  command_no_answer (Some (primary.DATA true m)) l = refl

  response_not_noted : (r : Option Response) (g : Ledger) → sent_told (in_brief check (ends.answer_parts r)) g ≡ g
  response_not_noted None g = refl
  response_not_noted (Some Reset) g = refl
  response_not_noted (Some (Ack Zero k)) g = refl
  response_not_noted (Some (Ack One k)) g = refl

  response_told : (r : Response) (l : Reply) → answer_told (in_brief check (ends.answer_parts (Some r))) l ≡ reply_of r
  response_told Reset l = refl
  response_told (Ack Zero k) l = refl
  response_told (Ack One k) l = refl

credit_reply : (last : Option Number) (k : ℕ) → reply_of (secondary.with_credit last k) ≡ option_map is_one last
credit_reply None k = refl
credit_reply (Some n) k = refl

-- a read-out of the oldest of several
read_split : (rd hs : List (List ℕ)) → eqb (length hs) 0 ≡ false → rd ++ hs ≡ (rd ++ oldest_of hs ∷ []) ++ drop 1 hs
read_split rd [] e = never e
read_split rd (m ∷ hs) e = sym (append_assoc rd (m ∷ []) hs)

pub frame_limit : (f : List ℕ) → not (between 1 20 (get_or f 7 0)) ≡ false → get_or f 7 0 ≤ 255
frame_limit f h = let q = leb-true _ 20 (and_parts (leb 1 (get_or f 7 0)) (leb (get_or f 7 0) 20) (not-false _ h)).1 in omega arith

-- by a kind with c check bytes
module _ (c : ℕ) (check : List ℕ → List ℕ) where
  abbrev pub commands : List Burst → List primary.Command
  commands w = found c check commands_in w

  abbrev pub replies : List Burst → List Reply
  replies w = found c check replies_in w

  -- What a call k at an end does. CO and RO are the commands and replies that can be read on the way out before the call, CI
  -- and RI those on the way in.
  pub record Goes (k : Call) (e : ends.End) (CO : List primary.Command) (RO : List Reply) (CI : List primary.Command) (RI : List Reply) (x : Acted) : Type 0 where
    pub command : Option primary.Command
    pub reply : Option Reply
    pub fits : Fits x.sent
    pub as_command : new commands_in x.sent ≡ as_list command
    pub as_reply : new replies_in x.sent ≡ as_list reply
    pub sound : Sound x.next
    pub last_told : last_after x.answer (last_of e) ≡ last_of x.next
    pub settings_told : settings_after k x.answer e.settings ≡ x.next.settings
    pub counted : length (unsettled_in e.primary.phase) + accepted_in k x.answer ≡ outcomes_in x.answer + length (unsettled_in x.next.primary.phase)
    pub near : (l : Reply) (st : List (List ℕ)) (g : Ledger) (C' : List primary.Command)
        → InvOf e.primary e.settings.attempt_limit l CO RI st g → Went command CO C'
        → InvOf x.next.primary x.next.settings.attempt_limit l C' (replies x.into) st (ledger_after k x.answer l e.settings.attempt_limit g)
    pub far : (p : primary.Station) (M : ℕ) (rd : List (List ℕ)) (g : Ledger) (R' : List Reply)
        → InvOf p M (last_of e) CI RO (rd ++ e.secondary.held) g → Went reply RO R'
        → InvOf p M (last_of x.next) (commands x.into) R' (read_after x.answer rd ++ x.next.secondary.held) g

  module _ (e : ends.End) (CO : List primary.Command) (RO : List Reply) (into : List Burst) (s : Sound e) where
    -- refused, the burst that arrived being used up with what could be read of it
    turned : (k : Call) (n : ℕ) (CI : List primary.Command)
        → ((p : primary.Station) (M : ℕ) (rd : List (List ℕ)) (g : Ledger) → InvOf p M (last_of e) CI RO (rd ++ e.secondary.held) g → InvOf p M (last_of e) (commands into) RO (rd ++ e.secondary.held) g)
        → Goes k e CO RO CI (replies into) (turned_away n e into)
    turned k n CI h =
        record {
          command = None;
          reply = None;
          fits = tt;
          as_command = refl;
          as_reply = refl;
          sound = s;
          last_told = refl;
          settings_told = refl;
          counted = omega arith;
          near = λ l st g C' i w. keep (λ (C : List primary.Command). InvOf e.primary e.settings.attempt_limit l C (replies into) st g) w i;
          far = λ p M rd g R' i w. keep (λ (R : List Reply). InvOf p M (last_of e) (commands into) R (rd ++ e.secondary.held) g) w (h p M rd g i);
        }

    goes_refused : (k : Call) (n : ℕ) → Goes k e CO RO (commands into) (replies into) (turned_away n e into)
    goes_refused k n = turned k n (commands into) (λ p M rd g i. i)

    -- an end heard this letter, or did something without one
    module _ (letter : Option ℕ) where
      -- the primary station did something
      goes_primary : (k : Call) (RI : List Reply) (d : primary.Did) → Fair d
          → ((l : Reply) (st : List (List ℕ)) (g : Ledger) (C' : List primary.Command) → InvOf e.primary e.settings.attempt_limit l CO RI st g → Went d.sent CO C' → InvOf d.next e.settings.attempt_limit l C' (replies into) st (noted d l (asked k e.settings.attempt_limit g)))
          → settings_after k (gave (reported letter (telling check (ends.by_primary e d)))) e.settings ≡ e.settings
          → length (unsettled_in e.primary.phase) + asks_one k ≡ d.arrivals + (d.give_ups + d.no_connections) + length (unsettled_in d.next.phase)
          → Goes k e CO RO (commands into) RI (done c check letter (gave (ends.by_primary e d)) e into)
      goes_primary k RI d f h m q =
          let M = e.settings.attempt_limit in
          record {
            command = d.sent;
            reply = None;
            fits = f.0;
            as_command = command_new d.sent;
            as_reply = command_quiet d.sent;
            sound = record { sendable = f.1; limited = s.limited; none_out = s.none_out };
            last_told = command_no_answer check d.sent (last_of e);
            settings_told = m;
            counted = q;
            near = λ l st g C' i w. subst (λ (y : Ledger). InvOf d.next M l C' (replies into) st y) (sym (command_noted check d.sent _)) (h l st g C' i w);
            far = λ p N rd g R' i w. keep (λ (R : List Reply). InvOf p N (last_of e) (commands into) R (rd ++ e.secondary.held) g) w i;
          }

      -- the secondary station did something
      module _ (CI : List primary.Command) (s' : secondary.Station) (out : s'.out ≡ false) where
        goes_answered : (r : Response) → Fits (ends.answer_parts (Some r)) → reply_of r ≡ option_map is_one s'.last
            → ((p : primary.Station) (M : ℕ) (rd : List (List ℕ)) (g : Ledger) (R' : List Reply) → InvOf p M (last_of e) CI RO (rd ++ e.secondary.held) g → Went (Some (option_map is_one s'.last)) RO R' → InvOf p M (option_map is_one s'.last) (commands into) R' (rd ++ s'.held) g)
            → Goes Arrive e CO RO CI (replies into) (done c check letter (gave (ends.by_secondary e s' (Some r))) e into)
        goes_answered r f q h =
            record {
              command = None;
              reply = Some (option_map is_one s'.last);
              fits = f;
              as_command = response_quiet (Some r);
              as_reply = response_new (Some r) ∙ ap (λ (y : Reply). y ∷ []) q;
              sound = record { sendable = s.sendable; limited = s.limited; none_out = out };
              last_told = response_told check r (last_of e) ∙ q;
              settings_told = refl;
              counted = omega arith;
              near = λ l st g C' i w. subst (λ (y : Ledger). InvOf e.primary e.settings.attempt_limit l C' (replies into) st y) (sym (response_not_noted check (Some r) g))
                  (keep (λ (C : List primary.Command). InvOf e.primary e.settings.attempt_limit l C (replies into) st g) w i);
              far = h;
            }

      -- no buffer is free
      goes_unanswered : (p : primary.Command) → Goes Arrive e CO RO (p ∷ commands into) (replies into) (done c check letter (gave (ends.by_secondary e e.secondary None)) e into)
      goes_unanswered p =
          record {
            command = None;
            reply = None;
            fits = tt;
            as_command = refl;
            as_reply = refl;
            sound = record { sendable = s.sendable; limited = s.limited; none_out = s.none_out };
            last_told = refl;
            settings_told = refl;
            counted = omega arith;
            near = λ l st g C' i w. keep (λ (C : List primary.Command). InvOf e.primary e.settings.attempt_limit l C (replies into) st g) w i;
            far = λ q M rd g R' i w. keep (λ (R : List Reply). InvOf q M (last_of e) (commands into) R (rd ++ e.secondary.held) g) w
                (ignored p q.phase q.number q.attempts M (last_of e) (commands into) RO (rd ++ e.secondary.held) g.closed g.waits i);
          }

      goes_enq : (b : Bool) (k : ℕ) → k ≤ 8
          → Goes Arrive e CO RO (primary.ENQ ∷ commands into) (replies into) (done c check letter (gave (ends.by_secondary e e.secondary (cond b (Some (secondary.with_credit e.secondary.last k)) None))) e into)
      goes_enq false k h = goes_unanswered primary.ENQ
      goes_enq true k h =
          goes_answered (primary.ENQ ∷ commands into) e.secondary s.none_out (secondary.with_credit e.secondary.last k) (response_fits e.secondary.last k h) (credit_reply e.secondary.last k)
          (λ p M rd g R' i w. enq_answered p.phase p.number p.attempts M (last_of e) (commands into) RO R' (rd ++ e.secondary.held) g.closed g.waits i w)

      goes_data : (t b : Bool) (n : Number) (m : List ℕ) (k : ℕ) → k ≤ 8
          → Goes Arrive e CO RO (primary.DATA (is_one n) m ∷ commands into) (replies into)
          (done c check letter (ends.seen (ends.by_secondary e (secondary.or_kept (judged (t ⇒ 16 ∷ []) (cond b (secondary.stored n m e.secondary) e.secondary)) e.secondary)) (judged (t ⇒ 16 ∷ []) (cond b (Some (Ack n k)) None))) e into)
      goes_data true b n m k h =
          turned Arrive 16 (primary.DATA (is_one n) m ∷ commands into)
          (λ p M rd g i. ignored (primary.DATA (is_one n) m) p.phase p.number p.attempts M (last_of e) (commands into) RO (rd ++ e.secondary.held) g.closed g.waits i)
      goes_data false false n m k h = goes_unanswered (primary.DATA (is_one n) m)
      goes_data false true n m k h =
          goes_answered (primary.DATA (is_one n) m ∷ commands into) (secondary.stored n m e.secondary) s.none_out (Ack n k) (ack_fits n k h) refl
          (λ p M rd g R' i w.
          subst (λ (x : List (List ℕ)). InvOf p M (Some (is_one n)) (commands into) R' x g) (append_assoc rd e.secondary.held (m ∷ []))
          (data_stored (is_one n) m p.phase p.number p.attempts M (last_of e) (commands into) RO R' (rd ++ e.secondary.held) g.closed g.waits i w))

      -- an answer heard
      goes_reset : Goes Arrive e CO RO (commands into) (None ∷ replies into) (done c check letter (ends.hears e primary.reset) e into)
      goes_reset =
          let p = e.primary in
          let M = e.settings.attempt_limit in
          goes_primary Arrive (None ∷ replies into) (cell M p p.phase primary.reset) (cell_fair M p p.phase primary.reset tt s.sendable)
          (λ l st g C' i w. reset_keeps p.phase p M l CO C' (replies into) st g.closed g.waits s.limited i w) refl (cell_counted M p p.phase primary.reset tt)

      goes_ack : (n : Bool) (k : ℕ) → Goes Arrive e CO RO (commands into) (Some n ∷ replies into) (done c check letter (ends.hears e (primary.ack n k)) e into)
      goes_ack n k =
          let p = e.primary in
          let M = e.settings.attempt_limit in
          goes_primary Arrive (Some n ∷ replies into) (cell M (credited k p) p.phase (primary.ack n k)) (cell_fair M (credited k p) p.phase (primary.ack n k) tt s.sendable)
          (λ l st g C' i w. ack_keeps n k p.phase (credited k p) M l CO C' (replies into) st g.closed g.waits s.limited i w) refl (cell_counted M (credited k p) p.phase (primary.ack n k) tt)

      goes_read : (r : Answer Parts) → Goes Arrive e CO RO (commands_in r ++ commands into) (replies_in r ++ replies into) (done c check letter (ends.after_reading e r) e into)
      goes_read (refused n) = goes_refused Arrive n
      goes_read (gave (parts l p f)) = go (eqb l 0x45) (eqb l 0x30) (eqb l 0x31) (eqb l 0x41) (eqb l 0x42)
        where
          room : ℕ
          room = secondary.free_buffers (ends.limit e) e.secondary

          few : room ≤ 8
          few = omega arith

          go : (a b d x y : Bool)
              → Goes Arrive e CO RO
              (cond a (primary.ENQ ∷ []) (cond b (primary.DATA false f ∷ []) (cond d (primary.DATA true f ∷ []) [])) ++ commands into)
              (cond a [] (cond b [] (cond d [] (cond x (Some false ∷ []) (cond y (Some true ∷ []) (None ∷ []))))) ++ replies into)
              (done c check letter (cond a (ends.enq_heard e) (cond b (ends.data_heard e Zero f) (cond d (ends.data_heard e One f) (cond x (ends.hears e (primary.ack false (get_or f 0 0 - 0x30))) (cond y (ends.hears e (primary.ack true (get_or f 0 0 - 0x30))) (ends.hears e primary.reset)))))) e into)
          go true b d x y = goes_enq (ltb 0 (secondary.free_buffers (ends.limit e) e.secondary)) (secondary.free_buffers (ends.limit e) e.secondary) (omega arith)
          go false true d x y = goes_data (not (between 1 96 (length f))) (ltb 0 (secondary.free_buffers (ends.limit e) e.secondary)) Zero f (secondary.free_buffers (ends.limit e) e.secondary - 1) (omega arith)
          go false false true x y = goes_data (not (between 1 96 (length f))) (ltb 0 (secondary.free_buffers (ends.limit e) e.secondary)) One f (secondary.free_buffers (ends.limit e) e.secondary - 1) (omega arith)
          go false false false true y = goes_ack false (get_or f 0 0 - 0x30)
          go false false false false true = goes_ack true (get_or f 0 0 - 0x30)
          go false false false false false = goes_reset

    goes_submission : (m : List ℕ) (a : Answer primary.Did) → a ≡ step_of e.settings.attempt_limit e.primary (primary.submission m)
        → Goes (Submit m) e CO RO (commands into) (replies into) (done c check None (ends.seen (ends.by_primary e) a) e into)
    goes_submission m (refused n) is = goes_refused (Submit m) n
    goes_submission m (gave d) is =
        let p = e.primary in
        let M = e.settings.attempt_limit in
        let h = primary.submission m in
        let all = passed (rules h p) (cell M p p.phase h) d is in
        subst (λ (x : primary.Did). Goes (Submit m) e CO RO (commands into) (replies into) (done c check None (gave (ends.by_primary e x)) e into)) all.1
        (goes_primary None (Submit m) (replies into) (cell M p p.phase h) (cell_fair M p p.phase h (heard_valid h p all.0) s.sendable)
        (λ l st g C' i w. submission_keeps m p.phase p M l CO C' (replies into) st g.closed g.waits all.0.1.1.0 i w) refl (cell_counted M p p.phase h all.0.1.1.0))

    goes_read_out : (size : ℕ) (a b d : Bool) → eqb (length e.secondary.held) 0 ≡ d
        → Goes (ReadOut size) e CO RO (commands into) (replies into)
        (record {
          next = ends.with_secondary (secondary.or_kept (judged (a ⇒ 21 ∷ b ⇒ 22 ∷ d ⇒ 23 ∷ []) (secondary.freed e.secondary)) e.secondary) e;
          into = into;
          sent = None;
          answer = ends.seen read (judged (a ⇒ 21 ∷ b ⇒ 22 ∷ d ⇒ 23 ∷ []) (oldest_of e.secondary.held));
        })
    goes_read_out size true b d h = goes_refused (ReadOut size) 21
    goes_read_out size false true d h = goes_refused (ReadOut size) 22
    goes_read_out size false false true h = goes_refused (ReadOut size) 23
    goes_read_out size false false false h =
        record {
          command = None;
          reply = None;
          fits = tt;
          as_command = refl;
          as_reply = refl;
          sound = record { sendable = s.sendable; limited = s.limited; none_out = refl };
          last_told = refl;
          settings_told = refl;
          counted = omega arith;
          near = λ l st g C' i w. keep (λ (C : List primary.Command). InvOf e.primary e.settings.attempt_limit l C (replies into) st g) w i;
          far = λ p M rd g R' i w. keep (λ (R : List Reply). InvOf p M (last_of e) (commands into) R ((rd ++ oldest_of e.secondary.held ∷ []) ++ drop 1 e.secondary.held) g) w
              (subst (λ (x : List (List ℕ)). InvOf p M (last_of e) (commands into) RO x g) (read_split rd e.secondary.held h) i);
        }

    goes_collect : (os : List ℕ)
        → Goes Collect e CO RO (commands into) (replies into) (record { next = ends.with_primary (collected_from e.primary) e; into = into; sent = None; answer = ends.seen collected (oldest os) })
    goes_collect os = record { command = None; reply = None; fits = tt; as_command = refl; as_reply = refl; sound = record { sendable = s.sendable; limited = s.limited; none_out = s.none_out }; last_told = told os; settings_told = limit os; counted = count os; near = near os; far = far os }
      where
        told : (os : List ℕ) → last_after (ends.seen collected (oldest os)) (last_of e) ≡ last_of e
        told [] = refl
        told (o ∷ os) = refl

        limit : (os : List ℕ) → settings_after Collect (ends.seen collected (oldest os)) e.settings ≡ e.settings
        limit [] = refl
        limit (o ∷ os) = refl

        count : (os : List ℕ) → length (unsettled_in e.primary.phase) + accepted_in Collect (ends.seen collected (oldest os)) ≡ outcomes_in (ends.seen collected (oldest os)) + length (unsettled_in e.primary.phase)
        count [] = omega arith
        count (o ∷ os) = omega arith

        near : (os : List ℕ) (l : Reply) (st : List (List ℕ)) (g : Ledger) (C' : List primary.Command)
            → InvOf e.primary e.settings.attempt_limit l CO (replies into) st g → Went None CO C'
            → InvOf e.primary e.settings.attempt_limit l C' (replies into) st (ledger_after Collect (ends.seen collected (oldest os)) l e.settings.attempt_limit g)
        near [] l st g C' i w = keep (λ (C : List primary.Command). InvOf e.primary e.settings.attempt_limit l C (replies into) st g) w i
        near (o ∷ os) l st g C' i w = keep (λ (C : List primary.Command). InvOf e.primary e.settings.attempt_limit l C (replies into) st g) w i

        far : (os : List ℕ) (p : primary.Station) (M : ℕ) (rd : List (List ℕ)) (g : Ledger) (R' : List Reply)
            → InvOf p M (last_of e) (commands into) RO (rd ++ e.secondary.held) g → Went None RO R'
            → InvOf p M (last_of e) (commands into) R' (read_after (ends.seen collected (oldest os)) rd ++ e.secondary.held) g
        far [] p M rd g R' i w = keep (λ (R : List Reply). InvOf p M (last_of e) (commands into) R (rd ++ e.secondary.held) g) w i
        far (o ∷ os) p M rd g R' i w = keep (λ (R : List Reply). InvOf p M (last_of e) (commands into) R (rd ++ e.secondary.held) g) w i

    goes_set : (f : List ℕ) (a : Answer Settings) → a ≡ ends.change e f
        → Goes (Set f) e CO RO (commands into) (replies into) (record { next = ends.set_by a e; into = into; sent = None; answer = ends.seen (λ x. adopted) a })
    goes_set f (refused n) is = goes_refused (Set f) n
    goes_set f (gave x) is =
        let p = e.primary in
        let all = passed (change_rules f (ends.awaiting p.phase) (length e.secondary.held)) (settings_in f) x is in
        let limit : get_or f 7 0 ≡ x.attempt_limit = ap (λ (y : Settings). y.attempt_limit) all.1 in
        record {
          command = None;
          reply = None;
          fits = tt;
          as_command = refl;
          as_reply = refl;
          sound = record { sendable = s.sendable; limited = subst (λ (M : ℕ). M ≤ 255) limit (frame_limit f all.0.1.1.1.1.0); none_out = s.none_out };
          last_told = refl;
          settings_told = all.1;
          counted = omega arith;
          near = λ l st g C' i w. keep (λ (C : List primary.Command). InvOf p x.attempt_limit l C (replies into) st g) w
              (limit_free p.phase p.number p.attempts e.settings.attempt_limit x.attempt_limit l CO (replies into) st g.closed g.waits all.0.1.1.1.1.1.1.0 i);
          far = λ q M rd g R' i w. keep (λ (R : List Reply). InvOf q M (last_of e) (commands into) R (rd ++ e.secondary.held) g) w i;
        }

  quiet_keeps : (p : primary.Station) (M : ℕ) (l : Reply) (C C' : List primary.Command) (R : List Reply) (st : List (List ℕ)) (g : Ledger) → M ≤ 255 → Empty C → Empty R
      → let d = cell M p p.phase primary.timeout in InvOf p M l C R st g → Went d.sent C C' → InvOf d.next M l C' R st (noted d l (asked Expire M g))
  quiet_keeps p M l [] C' [] st g m u v i w = timeout_keeps p.phase p M l C' st g.closed g.waits m i w
  quiet_keeps p M l [] C' (r ∷ R) st g m u v i w = absurd v
  quiet_keeps p M l (x ∷ C) C' R st g m u v i w = absurd u

  module _ (e : ends.End) (s : Sound e) where
    goes_timeout : (out into : List Burst) (b : Bool) → (some_letter letters.command out || some_letter letters.answer into) ≡ b
        → Goes Expire e (commands out) (replies out) (commands into) (replies into) (done c check None (unless (b ⇒ 27 ∷ []) (ends.timeout e)) e into)
    goes_timeout out into true h = goes_refused e (commands out) (replies out) into s Expire 27
    goes_timeout out into false h =
        let p = e.primary in
        let M = e.settings.attempt_limit in
        let q = or_parts (some_letter letters.command out) (some_letter letters.answer into) h in
        goes_primary e (commands out) (replies out) into s None Expire (replies into) (cell M p p.phase primary.timeout) (cell_fair M p p.phase primary.timeout tt s.sendable)
        (λ l st g C' i w. quiet_keeps p M l (commands out) C' (replies into) st g s.limited (no_commands c check out q.0) (no_replies c check into q.1) i w) refl (cell_counted M p p.phase primary.timeout tt)

    goes_arrival : (out into : List Burst) → Goes Arrive e (commands out) (replies out) (commands into) (replies into) (act c check Arrive e out into)
    goes_arrival out [] = goes_refused e (commands out) (replies out) [] s Arrive 26
    goes_arrival out (b ∷ into) =
        subst (λ (t : Bool). Goes Arrive e (commands out) (replies out) (commands (b ∷ into)) (replies (b ∷ into)) (done c check (letter_of (reading c check b)) (unless (t ⇒ 26 ∷ []) (ends.arrival c check e b)) e into)) (sym (eqb-suc-zero (length into)))
        (goes_read e (commands out) (replies out) into s (letter_of (reading c check b)) (reading c check b))

    pub goes : (k : Call) (out into : List Burst) → Goes k e (commands out) (replies out) (commands into) (replies into) (act c check k e out into)
    goes (Submit m) out into = goes_submission e (commands out) (replies out) into s m _ refl
    goes Arrive out into = goes_arrival out into
    goes Expire out into = goes_timeout out into (some_letter letters.command out || some_letter letters.answer into) refl
    goes (ReadOut size) out into = goes_read_out e (commands out) (replies out) into s size (ltb size 96) e.secondary.out (eqb (length e.secondary.held) 0) refl
    goes Collect out into = goes_collect e (commands out) (replies out) into s e.primary.outcomes
    goes (Set f) out into = goes_set e (commands out) (replies out) into s f (ends.change e f) refl
