-- One channel: a primary station, the far secondary station's last answer, the commands and answers under way between them,
-- what the far side stored, and the near side's ledger.
use Rattle.std.proofs.Common.{◌≡◌, ℕ, suc, ◌+◌, ◌*◌, ◌≤◌, Bool, true, false, cond, not, leb, ◌⊎◌, List, [], ◌∷◌, ◌++◌, length, Some, None, Option, sym, refl, ap, ◌∙◌, subst, inl, inr, arith}
use mathlib.Core.Bool.{beq}
use Rattle.std.proofs.lemmas.Bool.{leb-false, false≢true}
use Rattle.primary.specs.declared.outcome.Outcome.TheVariants.{Arrived, GivenUp, NoConnection}
use Rattle.primary.specs.Station.{Message, Phase, off, ready, waiting, asking, Station, submission, reset, ack, timeout, Command, ENQ, DATA, Did, is_off}
use Rattle.primary.specs.Table.{at, cell, rests, asks, sends_again, arrives, gives_up, once_more}
use Rattle.station.specs.End.{awaiting}
use Rattle.agreement.specs.Transcript.{unsettled, Accepted, Ledger, newcomer, accept, later, all_later, timed, ended, settles, numbered, data_sent}
use Rattle.agreement.specs.Stored.{Bears, Meets, Picks, none_left, picked, passed_by}
use Rattle.agreement.specs.InTime.{InTime}

-- an answer: an ACK's number, or none for RESET
abbrev pub Reply : Type 0
Reply = Option Bool

abbrev pub Empty : {A : Type 0} → List A → Type 0
Empty [] = Unit {0}
Empty (x ∷ xs) = ⊥

-- at most one command or answer of the channel is under way: a command of which P holds, or the last answer, of which Q holds
pub data Flow (P : Command → Type 0) (Q : Reply → Type 0) : Reply → List Command → List Reply → Type 0 where
  quiet : {l : Reply} → Flow P Q l [] []
  command_out : {l : Reply} {p : Command} → P p → Flow P Q l (p ∷ []) []
  answer_back : {l : Reply} → Q l → Flow P Q l [] (l ∷ [])

abbrev pub AnyReply : Reply → Type 0
AnyReply l = Unit {0}

-- the answer to DATA under the number n
abbrev pub IsAnswer : Bool → Reply → Type 0
IsAnswer n l = Bears l (Some n)

abbrev pub IsENQ : Command → Type 0
IsENQ ENQ = Unit {0}
IsENQ (DATA n m) = ⊥

-- DATA of the current message c under the number n, which the far side has not answered
abbrev pub IsDATA : Reply → Bool → Message → Command → Type 0
IsDATA l n c ENQ = ⊥
IsDATA l n c (DATA k m) = (k ≡ n) × (m ≡ c) × (Bears l (Some n) → ⊥)

abbrev pub Settled : Reply → Bool → Type 0
Settled None n = Unit {0}
Settled (Some k) n = k ≡ n

-- the messages that wait behind the current one were not sent
abbrev pub Rest : List Message → List Accepted → Type 0
Rest [] [] = Unit {0}
Rest [] (e ∷ es) = ⊥
Rest (m ∷ ms) [] = ⊥
Rest (m ∷ ms) (e ∷ es) = ((e.message ≡ m) × (e.number ≡ None) × (e.fate ≡ unsettled)) × Rest ms es

abbrev pub Queue : Bool → Message → List Message → List Accepted → Type 0
Queue n c ms [] = ⊥
Queue n c ms (e ∷ es) = ((e.message ≡ c) × (e.number ≡ Some n) × (e.fate ≡ unsettled)) × Rest ms es

-- the j-th of the queue, after t timeouts for the current message
pub record Slack (M t j : ℕ) (e : Accepted) : Type 0 where
  pub same : e.limit ≡ M
  pub settled_since : ℕ
  pub place : e.behind ≡ j + settled_since
  pub few : e.timeouts ≤ settled_since * M + t

abbrev pub Due : ℕ → ℕ → ℕ → List Accepted → Type 0
Due M t j [] = Unit {0}
Due M t j (e ∷ es) = Slack M t j e × Due M t (suc j) es

-- the current message is the last one stored, or is not stored
abbrev pub Here : Reply → Bool → Message → List Message → List Message → Type 0
Here l n c st base = (Bears l (Some n) × (st ≡ base ++ c ∷ [])) ⊎ ((Bears l (Some n) → ⊥) × (st ≡ base))

-- whatever the last answer is by now
abbrev pub PickedAlways : List Accepted → List Message → Type 0
PickedAlways cs st = (now : Reply) → Picks now cs st

pub record Current (n : Bool) (a M : ℕ) (l : Reply) (c : Message) (ms st : List Message) (cs ws : List Accepted) : Type 0 where
  pub base : List Message
  pub picks : PickedAlways cs base
  pub here : Here l n c st base
  pub queue : Queue n c ms ws
  pub t : ℕ
  pub up_to : t ≤ a
  pub below : t ≤ M
  pub due : Due M t 0 ws

-- by the phase, the number and the attempts of the primary station
abbrev pub Inv : Phase → Bool → ℕ → ℕ → Reply → List Command → List Reply → List Message → List Accepted → List Accepted → Type 0
Inv off n a M l C A st cs ws = Flow IsENQ AnyReply l C A × Empty ws × PickedAlways cs st
Inv ready n a M l C A st cs ws = Empty C × Empty A × Empty ws × PickedAlways cs st × Settled l n
Inv (waiting c ms) n a M l C A st cs ws = Flow (IsDATA l n c) (IsAnswer n) l C A × Current n a M l c ms st cs ws
Inv (asking c ms) n a M l C A st cs ws = Flow IsENQ AnyReply l C A × Current n a M l c ms st cs ws

abbrev pub InvOf : Station → ℕ → Reply → List Command → List Reply → List Message → Ledger → Type 0
InvOf s M l C A st g = Inv s.phase s.number s.attempts M l C A st g.closed g.waits

-- a command sent, in the ledger
abbrev pub sent_noted : Option Command → Ledger → Ledger
sent_noted None g = g
sent_noted (Some ENQ) g = g
sent_noted (Some (DATA n m)) g = data_sent n g

-- what a station did, in the ledger
abbrev pub noted : Did → Reply → Ledger → Ledger
noted d l g = sent_noted d.sent (settles NoConnection l d.no_connections (settles GivenUp l d.give_ups (settles Arrived l d.arrivals g)))

abbrev pub books : List Accepted → List Accepted → Ledger
books cs ws = record { closed = cs; waits = ws }

-- what a medium has of one kind after an offer
pub data Went {X : Type 0} : Option X → List X → List X → Type 0 where
  not_sent : {x : List X} → Went None x x
  lost : {p : X} {x : List X} → Went (Some p) x x
  through : {p : X} {x : List X} → Went (Some p) x (x ++ p ∷ [])

pub never : {A : Type 0} → true ≡ false → A
never e = absurd (false≢true (sym e))

-- the queue
rest_joined : (ms : List Message) (es : List Accepted) (m : Message) (k M : ℕ) → Rest ms es → Rest (ms ++ m ∷ []) (es ++ newcomer m k M ∷ [])
rest_joined [] [] m k M r = ((refl, refl, refl), tt)
rest_joined [] (e ∷ es) m k M r = absurd r
rest_joined (x ∷ ms) [] m k M r = absurd r
rest_joined (x ∷ ms) (e ∷ es) m k M r = (r.0, rest_joined ms es m k M r.1)

queue_joined : (n : Bool) (c : Message) (ms : List Message) (ws : List Accepted) (m : Message) (k M : ℕ) → Queue n c ms ws → Queue n c (ms ++ m ∷ []) (ws ++ newcomer m k M ∷ [])
queue_joined n c ms [] m k M q = absurd q
queue_joined n c ms (e ∷ es) m k M q = (q.0, rest_joined ms es m k M q.1)

due_joined : (M t j : ℕ) (ws : List Accepted) (m : Message) (k : ℕ) → k ≡ j + length ws → Due M t j ws → Due M t j (ws ++ newcomer m k M ∷ [])
due_joined M t j [] m k e d = (record { same = refl; settled_since = 0; place = omega arith; few = omega arith }, tt)
due_joined M t j (x ∷ ws) m k e d = (d.0, due_joined M t (suc j) ws m k (omega arith) d.1)

due_later : (M t j : ℕ) (ws : List Accepted) → Due M t j ws → Due M (suc t) j (all_later ws)
due_later M t j [] d = tt
due_later M t j (e ∷ es) d =
    let s = d.0 in
    (record { same = s.same; settled_since = s.settled_since; place = s.place; few = let f = s.few in omega arith }, due_later M t (suc j) es d.1)

due_settled : (M t j : ℕ) (ws : List Accepted) → t ≤ M → Due M t (suc j) ws → Due M 0 j ws
due_settled M t j [] h d = tt
due_settled M t j (e ∷ es) h d =
    let s = d.0 in
    let f = s.few in
    let p = s.place in
    (record { same = s.same; settled_since = suc s.settled_since; place = omega arith; few = omega arith }, due_settled M t (suc j) es h d.1)

due_numbered : (M t : ℕ) (n : Bool) (ws : List Accepted) → Due M t 0 ws → Due M t 0 (numbered n ws)
due_numbered M t n [] d = tt
due_numbered M t n (e ∷ es) d = (record { same = d.0.same; settled_since = d.0.settled_since; place = d.0.place; few = d.0.few }, d.1)

pub in_time : (M t j : ℕ) (ws : List Accepted) → t ≤ M → Due M t j ws → InTime ws
in_time M t j [] h d = tt
in_time M t j (e ∷ es) h d =
    let s = d.0 in
    let f = s.few in
    (rw s.same (rw s.place (omega arith)), in_time M t (suc j) es h d.1)

-- one more message got its outcome, and was picked or passed by
pick_last : {now : Reply} {cs : List Accepted} {base : List Message} (e : Accepted) → Meets now e.number e.fate → Picks now cs base → Picks now (cs ++ e ∷ []) (base ++ e.message ∷ [])
pick_last e m none_left = picked m none_left
pick_last e m (picked k p) = picked k (pick_last e m p)
pick_last e m (passed_by k p) = passed_by k (pick_last e m p)

pass_last : {now : Reply} {cs : List Accepted} {base : List Message} (e : Accepted) → (Meets now e.number e.fate → ⊥) → Picks now cs base → Picks now (cs ++ e ∷ []) base
pass_last e m none_left = passed_by m none_left
pass_last e m (picked k p) = picked k (pass_last e m p)
pass_last e m (passed_by k p) = passed_by k (pass_last e m p)

pub not_borne : (l n : Reply) → n ≡ None → Bears l n → ⊥
not_borne None n e b = b
not_borne (Some k) None e b = b
not_borne (Some k) (Some n) e b = let z : ◌≡◌ {A = ℕ} 0 1 = cc in omega arith

-- the messages that wait behind a given-up one get no connection
rest_closed : (l : Reply) (ms : List Message) (es cs : List Accepted) (base : List Message) → Rest ms es → PickedAlways cs base
    → let g : Ledger = settles NoConnection l (length ms) (books cs es) in Empty g.waits × PickedAlways g.closed base
rest_closed l [] [] cs base r p = (tt, p)
rest_closed l [] (e ∷ es) cs base r p = absurd r
rest_closed l (m ∷ ms) [] cs base r p = absurd r
rest_closed l (m ∷ ms) (e ∷ es) cs base r p =
    rest_closed l ms es (cs ++ ended NoConnection l e ∷ []) base r.1 (λ now. pass_last (ended NoConnection l e) (λ h. h) (p now))

-- the next number is not the one last answered
other_number : (l : Reply) (n : Bool) → Settled l n → Bears l (Some (not n)) → ⊥
other_number None n s b = b
other_number (Some true) true s b = never b
other_number (Some true) false s b = never s
other_number (Some false) true s b = never (sym s)
other_number (Some false) false s b = never (sym b)

-- a first DATA: nothing under way before it
module _ (n : Bool) (M : ℕ) (l : Reply) (settled : Settled l n) where
  current_begun : (m : Message) (ms st : List Message) (cs es : List Accepted) (e : Accepted) → PickedAlways cs st → e.message ≡ m → e.fate ≡ unsettled → Rest ms es → Due M 0 0 (e ∷ es)
      → Current (not n) 0 M l m ms st cs (numbered (not n) (e ∷ es))
  current_begun m ms st cs es e p em ef r d =
      record {
        base = st;
        picks = p;
        here = inr (other_number l n settled, refl);
        queue = ((em, refl, ef), r);
        t = 0;
        up_to = omega arith;
        below = omega arith;
        due = due_numbered M 0 (not n) (e ∷ es) d;
      }

  flow_begun : (m : Message) (C' : List Command) → Went (Some (DATA (not n) m)) [] C' → Flow (IsDATA l (not n) m) (IsAnswer (not n)) l C' []
  flow_begun m C' lost = quiet
  flow_begun m C' through = command_out (refl, refl, other_number l n settled)

-- a submission
current_joined : {n : Bool} {a M : ℕ} {l : Reply} {c : Message} {ms st : List Message} {cs ws : List Accepted} (m : Message)
    → Current n a M l c ms st cs ws → Current n a M l c (ms ++ m ∷ []) st cs (ws ++ newcomer m (length ws) M ∷ [])
current_joined {n} {a} {M} {l} {c} {ms} {st} {cs} {ws} m i =
    record {
      base = i.base;
      picks = i.picks;
      here = i.here;
      queue = queue_joined n c ms ws m (length ws) M i.queue;
      t = i.t;
      up_to = i.up_to;
      below = i.below;
      due = due_joined M i.t 0 ws m (length ws) (omega arith) i.due;
    }

pub submission_keeps : (m : Message) (ph : Phase) (s : Station) (M : ℕ) (l : Reply) (C C' : List Command) (A : List Reply) (st : List Message) (cs ws : List Accepted)
    → let d : Did = cell M (at ph s) ph (submission m) in
    is_off ph ≡ false → Inv ph s.number s.attempts M l C A st cs ws → Went d.sent C C' → InvOf d.next M l C' A st (noted d l (accept m M (books cs ws)))
submission_keeps m off s M l C C' A st cs ws b i w = never b
submission_keeps m ready s M l [] C' [] st cs [] b i w =
    (flow_begun s.number M l i.4 m C' w, current_begun s.number M l i.4 m [] st cs [] (newcomer m 0 M) i.3 refl refl tt (due_joined M 0 0 [] m 0 (omega arith) tt))
submission_keeps m ready s M l [] C' [] st cs (e ∷ ws) b i w = absurd i.2
submission_keeps m ready s M l [] C' (r ∷ A) st cs ws b i w = absurd i.1
submission_keeps m ready s M l (p ∷ C) C' A st cs ws b i w = absurd i.0
submission_keeps m (waiting c ms) s M l C C' A st cs ws b i not_sent = (i.0, current_joined m i.1)
submission_keeps m (asking c ms) s M l C C' A st cs ws b i not_sent = (i.0, current_joined m i.1)

-- an answer heard
borne_settled : (l : Reply) (n : Bool) → Bears l (Some n) → Settled l n
borne_settled None n b = absurd b
borne_settled (Some k) n b = b

arrived_picks : (l : Reply) (n : Bool) (c : Message) (st : List Message) (cs : List Accepted) (e : Accepted) → Bears l (Some n) → (base : List Message)
    → PickedAlways cs base → Here l n c st base → e.message ≡ c → PickedAlways (cs ++ ended Arrived l e ∷ []) st
arrived_picks l n c st cs e b base p (inl h) em now =
    subst (λ (x : List Message). Picks now (cs ++ ended Arrived l e ∷ []) x) (ap (λ (x : Message). base ++ x ∷ []) em ∙ sym h.1) (pick_last (ended Arrived l e) tt (p now))
arrived_picks l n c st cs e b base p (inr h) em now = absurd (h.0 b)

arrives_keeps : (ms : List Message) (c : Message) (s : Station) (M : ℕ) (l : Reply) (C' : List Command) (st : List Message) (cs ws : List Accepted)
    → let d : Did = arrives ms s in
    Bears l (Some s.number) → Current s.number s.attempts M l c ms st cs ws → Went d.sent [] C' → InvOf d.next M l C' [] st (noted d l (books cs ws))
arrives_keeps ms c s M l C' st cs [] b i w = absurd i.queue
arrives_keeps [] c s M l C' st cs (e ∷ []) b i not_sent = (tt, tt, tt, arrived_picks l s.number c st cs e b i.base i.picks i.here i.queue.0.0, borne_settled l s.number b)
arrives_keeps [] c s M l C' st cs (e ∷ f ∷ es) b i w = absurd i.queue.1
arrives_keeps (m ∷ ms) c s M l C' st cs (e ∷ []) b i w = absurd i.queue.1
arrives_keeps (m ∷ ms) c s M l C' st cs (e ∷ f ∷ es) b i w =
    let n = s.number in
    let z = borne_settled l n b in
    let r = i.queue.1 in (
      flow_begun n M l z m C' w,
      current_begun n M l z m ms st (cs ++ ended Arrived l e ∷ []) es f (arrived_picks l n c st cs e b i.base i.picks i.here i.queue.0.0) r.0.0 r.0.2 r.1 (due_settled M i.t 0 (f ∷ es) i.below i.due.1),
    )

-- DATA again bears the number that the message has
current_again : (n : Bool) (a M : ℕ) (l : Reply) (c : Message) (ms st : List Message) (cs : List Accepted) (e : Accepted) (es : List Accepted) → M ≤ 255
    → Current n a M l c ms st cs (e ∷ es) → Current n (once_more a) M l c ms st cs (numbered n (e ∷ es))
current_again n a M l c ms st cs e es m i =
    let u = i.up_to in
    let v = i.below in
    record {
      base = i.base;
      picks = i.picks;
      here = i.here;
      queue = ((i.queue.0.0, refl, i.queue.0.2), i.queue.1);
      t = i.t;
      up_to = omega arith;
      below = v;
      due = due_numbered M i.t n (e ∷ es) i.due;
    }

again_keeps : (c : Message) (ms : List Message) (s : Station) (M : ℕ) (l : Reply) (C' : List Command) (st : List Message) (cs ws : List Accepted)
    → let d : Did = sends_again c ms s in
    M ≤ 255 → (Bears l (Some s.number) → ⊥) → Current s.number s.attempts M l c ms st cs ws → Went d.sent [] C' → InvOf d.next M l C' [] st (noted d l (books cs ws))
again_keeps c ms s M l C' st cs [] m b i w = absurd i.queue
again_keeps c ms s M l C' st cs (e ∷ es) m b i lost = (quiet, current_again s.number s.attempts M l c ms st cs e es m i)
again_keeps c ms s M l C' st cs (e ∷ es) m b i through = (command_out (refl, refl, b), current_again s.number s.attempts M l c ms st cs e es m i)

pub reset_keeps : (ph : Phase) (s : Station) (M : ℕ) (l : Reply) (C C' : List Command) (A : List Reply) (st : List Message) (cs ws : List Accepted)
    → let d : Did = cell M (at ph s) ph reset in
    M ≤ 255 → Inv ph s.number s.attempts M l C (None ∷ A) st cs ws → Went d.sent C C' → InvOf d.next M l C' A st (noted d l (books cs ws))
reset_keeps off s M l C C' A st cs ws m (answer_back q, e, p) not_sent = (tt, tt, e, p, tt)
reset_keeps ready s M l C C' A st cs ws m i w = absurd i.1
reset_keeps (waiting c ms) s M l C C' A st cs ws m (answer_back q, i) w = absurd q
reset_keeps (asking c ms) s M l C C' A st cs ws m (answer_back q, i) w = again_keeps c ms (at (asking c ms) s) M None C' st cs ws m (λ b. b) i w

same_number : (k n : Bool) → beq k n ≡ true → k ≡ n
same_number true true e = refl
same_number true false e = never (sym e)
same_number false true e = never (sym e)
same_number false false e = refl

not_same : (k n : Bool) → beq k n ≡ false → k ≡ n → ⊥
not_same true true e q = never e
not_same true false e q = never q
not_same false true e q = never (sym q)
not_same false false e q = never e

ack_waiting : (b : Bool) (k : Bool) (c : Message) (ms : List Message) (s : Station) (M : ℕ) (C' : List Command) (st : List Message) (cs ws : List Accepted)
    → let d : Did = cond b (arrives ms (at (waiting c ms) s)) (rests (at (waiting c ms) s)) in
    beq k s.number ≡ b → k ≡ s.number → Current s.number s.attempts M (Some k) c ms st cs ws → Went d.sent [] C' → InvOf d.next M (Some k) C' [] st (noted d (Some k) (books cs ws))
ack_waiting true k c ms s M C' st cs ws e q i w = arrives_keeps ms c (at (waiting c ms) s) M (Some k) C' st cs ws (same_number k s.number e) i w
ack_waiting false k c ms s M C' st cs ws e q i w = absurd (not_same k s.number e q)

ack_asking : (b : Bool) (k : Bool) (c : Message) (ms : List Message) (s : Station) (M : ℕ) (C' : List Command) (st : List Message) (cs ws : List Accepted)
    → let d : Did = cond b (arrives ms (at (asking c ms) s)) (sends_again c ms (at (asking c ms) s)) in
    M ≤ 255 → beq k s.number ≡ b → Current s.number s.attempts M (Some k) c ms st cs ws → Went d.sent [] C' → InvOf d.next M (Some k) C' [] st (noted d (Some k) (books cs ws))
ack_asking true k c ms s M C' st cs ws m e i w = arrives_keeps ms c (at (asking c ms) s) M (Some k) C' st cs ws (same_number k s.number e) i w
ack_asking false k c ms s M C' st cs ws m e i w = again_keeps c ms (at (asking c ms) s) M (Some k) C' st cs ws m (not_same k s.number e) i w

pub ack_keeps : (k : Bool) (credit : ℕ) (ph : Phase) (s : Station) (M : ℕ) (l : Reply) (C C' : List Command) (A : List Reply) (st : List Message) (cs ws : List Accepted)
    → let d : Did = cell M (at ph s) ph (ack k credit) in
    M ≤ 255 → Inv ph s.number s.attempts M l C (Some k ∷ A) st cs ws → Went d.sent C C' → InvOf d.next M l C' A st (noted d l (books cs ws))
ack_keeps k credit off s M l C C' A st cs ws m (answer_back q, e, p) not_sent = (tt, tt, e, p, refl)
ack_keeps k credit ready s M l C C' A st cs ws m i w = absurd i.1
ack_keeps k credit (waiting c ms) s M l C C' A st cs ws m (answer_back q, i) w = ack_waiting (beq k s.number) k c ms s M C' st cs ws refl q i w
ack_keeps k credit (asking c ms) s M l C C' A st cs ws m (answer_back q, i) w = ack_asking (beq k s.number) k c ms s M C' st cs ws m refl i w

-- a timeout, with nothing of the channel under way
rest_later : (ms : List Message) (es : List Accepted) → Rest ms es → Rest ms (all_later es)
rest_later [] [] r = tt
rest_later [] (e ∷ es) r = r
rest_later (m ∷ ms) [] r = r
rest_later (m ∷ ms) (e ∷ es) r = ((r.0.0, r.0.1, r.0.2), rest_later ms es r.1)

given_up_picks : (l : Reply) (n : Bool) (c : Message) (st : List Message) (cs : List Accepted) (e : Accepted) → (base : List Message)
    → PickedAlways cs base → Here l n c st base → e.message ≡ c → e.number ≡ Some n → PickedAlways (cs ++ ended GivenUp l e ∷ []) st
given_up_picks l n c st cs e base p (inl h) em en now =
    subst (λ (x : List Message). Picks now (cs ++ ended GivenUp l e ∷ []) x) (ap (λ (x : Message). base ++ x ∷ []) em ∙ sym h.1)
    (pick_last (ended GivenUp l e) (subst (λ (x : Reply). Bears l x) (sym en) h.0) (p now))
given_up_picks l n c st cs e base p (inr h) em en now =
    subst (λ (x : List Message). Picks now (cs ++ ended GivenUp l e ∷ []) x) (sym h.1) (pass_last (ended GivenUp l e) (λ b. h.0 (subst (λ (x : Reply). Bears l x) en b)) (p now))

flow_asked : (l : Reply) (C' : List Command) → Went (Some ENQ) [] C' → Flow IsENQ AnyReply l C' []
flow_asked l C' lost = quiet
flow_asked l C' through = command_out tt

expires_keeps : (b : Bool) (c : Message) (ms : List Message) (s : Station) (M : ℕ) (l : Reply) (C' : List Command) (st : List Message) (cs ws : List Accepted)
    → let d : Did = cond b (gives_up ms s) (asks (asking c ms) s) in
    M ≤ 255 → leb M s.attempts ≡ b → Current s.number s.attempts M l c ms st cs ws → Went d.sent [] C' → InvOf d.next M l C' [] st (noted d l (timed (books cs ws)))
expires_keeps b c ms s M l C' st cs [] m h i w = absurd i.queue
expires_keeps true c ms s M l C' st cs (e ∷ es) m h i w =
    let given = given_up_picks l s.number c st cs (later e) i.base i.picks i.here i.queue.0.0 i.queue.0.1 in
    let r = rest_closed l ms (all_later es) (cs ++ ended GivenUp l (later e) ∷ []) st (rest_later ms es i.queue.1) given in
    (flow_asked l C' w, r.0, r.1)
expires_keeps false c ms s M l C' st cs (e ∷ es) m h i w =
    let f = leb-false M s.attempts h in
    let u = i.up_to in (
      flow_asked l C' w,
      record {
        base = i.base;
        picks = i.picks;
        here = i.here;
        queue = (i.queue.0, rest_later ms es i.queue.1);
        t = suc i.t;
        up_to = omega arith;
        below = omega arith;
        due = due_later M i.t 0 (e ∷ es) i.due;
      },
    )

pub timeout_keeps : (ph : Phase) (s : Station) (M : ℕ) (l : Reply) (C' : List Command) (st : List Message) (cs ws : List Accepted)
    → let d : Did = cell M (at ph s) ph timeout in
    M ≤ 255 → Inv ph s.number s.attempts M l [] [] st cs ws → Went d.sent [] C' → InvOf d.next M l C' [] st (noted d l (timed (books cs ws)))
timeout_keeps off s M l C' st cs [] m i w = (flow_asked l C' w, tt, i.2)
timeout_keeps off s M l C' st cs (e ∷ ws) m i w = absurd i.1
timeout_keeps ready s M l C' st cs [] m i not_sent = i
timeout_keeps ready s M l C' st cs (e ∷ ws) m i w = absurd i.2
timeout_keeps (waiting c ms) s M l C' st cs ws m i w = expires_keeps (leb M s.attempts) c ms (at (waiting c ms) s) M l C' st cs ws m refl i.1 w
timeout_keeps (asking c ms) s M l C' st cs ws m i w = expires_keeps (leb M s.attempts) c ms (at (asking c ms) s) M l C' st cs ws m refl i.1 w

-- a new limit while no message is under way
pub limit_free : (ph : Phase) (n : Bool) (a M M' : ℕ) (l : Reply) (C : List Command) (A : List Reply) (st : List Message) (cs ws : List Accepted)
    → awaiting ph ≡ false → Inv ph n a M l C A st cs ws → Inv ph n a M' l C A st cs ws
limit_free off n a M M' l C A st cs ws b i = i
limit_free ready n a M M' l C A st cs ws b i = i
limit_free (waiting c ms) n a M M' l C A st cs ws b i = never b
limit_free (asking c ms) n a M M' l C A st cs ws b i = never b

-- a command heard at the far side: ENQ is answered
pub enq_answered : (ph : Phase) (n : Bool) (a M : ℕ) (l : Reply) (C : List Command) (A A' : List Reply) (st : List Message) (cs ws : List Accepted)
    → Inv ph n a M l (ENQ ∷ C) A st cs ws → Went (Some l) A A' → Inv ph n a M l C A' st cs ws
enq_answered off n a M l C A A' st cs ws (command_out u, i, j) lost = (quiet, i, j)
enq_answered off n a M l C A A' st cs ws (command_out u, i, j) through = (answer_back tt, i, j)
enq_answered ready n a M l C A A' st cs ws i w = absurd i.0
enq_answered (waiting c ms) n a M l C A A' st cs ws (command_out u, i) w = absurd u
enq_answered (asking c ms) n a M l C A A' st cs ws (command_out u, i) lost = (quiet, i)
enq_answered (asking c ms) n a M l C A A' st cs ws (command_out u, i) through = (answer_back tt, i)

-- a command that meets no free receive buffer
pub ignored : (p : Command) (ph : Phase) (n : Bool) (a M : ℕ) (l : Reply) (C : List Command) (A : List Reply) (st : List Message) (cs ws : List Accepted)
    → Inv ph n a M l (p ∷ C) A st cs ws → Inv ph n a M l C A st cs ws
ignored p off n a M l C A st cs ws (command_out u, i, j) = (quiet, i, j)
ignored p ready n a M l C A st cs ws i = absurd i.0
ignored p (waiting c ms) n a M l C A st cs ws (command_out u, i) = (quiet, i)
ignored p (asking c ms) n a M l C A st cs ws (command_out u, i) = (quiet, i)

-- DATA is stored
stored_here : (l : Reply) (k n : Bool) (m c : Message) (st base : List Message) → k ≡ n → m ≡ c → (Bears l (Some n) → ⊥) → Here l n c st base → Here (Some k) n c (st ++ m ∷ []) base
stored_here l k n m c st base ek em b (inl h) = absurd (b h.0)
stored_here l k n m c st base ek em b (inr h) = inl (ek, cc)

current_stored : (k : Bool) (m : Message) (n : Bool) (a M : ℕ) (l : Reply) (c : Message) (ms st : List Message) (cs ws : List Accepted)
    → IsDATA l n c (DATA k m) → Current n a M l c ms st cs ws → Current n a M (Some k) c ms (st ++ m ∷ []) cs ws
current_stored k m n a M l c ms st cs ws d i =
    record {
      base = i.base;
      picks = i.picks;
      here = stored_here l k n m c st i.base d.0 d.1 d.2 i.here;
      queue = i.queue;
      t = i.t;
      up_to = i.up_to;
      below = i.below;
      due = i.due;
    }

pub data_stored : (k : Bool) (m : Message) (ph : Phase) (n : Bool) (a M : ℕ) (l : Reply) (C : List Command) (A A' : List Reply) (st : List Message) (cs ws : List Accepted)
    → Inv ph n a M l (DATA k m ∷ C) A st cs ws → Went (Some (Some k)) A A' → Inv ph n a M (Some k) C A' (st ++ m ∷ []) cs ws
data_stored k m off n a M l C A A' st cs ws (command_out u, i, j) w = absurd u
data_stored k m ready n a M l C A A' st cs ws i w = absurd i.0
data_stored k m (waiting c ms) n a M l C A A' st cs ws (command_out u, i) lost = (quiet, current_stored k m n a M l c ms st cs ws u i)
data_stored k m (waiting c ms) n a M l C A A' st cs ws (command_out u, i) through = (answer_back u.0, current_stored k m n a M l c ms st cs ws u i)
data_stored k m (asking c ms) n a M l C A A' st cs ws (command_out u, i) w = absurd u
