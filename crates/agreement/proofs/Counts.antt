-- Each outcome that a primary station tells is that of a message that it had without one, and the ledger loses no message.
use Rattle.std.proofs.Common.{◌≡◌, ℕ, zero, suc, ◌+◌, Bool, true, false, cond, leb, eqb, List, [], ◌∷◌, ◌++◌, length, Some, None, Option, refl, sym, ap, ◌∙◌, arith, length-append}
use mathlib.Core.Bool.{beq}
use Rattle.primary.specs.declared.outcome.Outcome.{Outcome}
use Rattle.primary.specs.Station.{Message, Phase, off, ready, waiting, asking, Station, Heard, submission, reset, ack, timeout, Did, unsettled_in, is_off}
use Rattle.primary.specs.Table.{at, cell, arrives, rests, gives_up, asks, sends_again}
use Rattle.packet.specs.Refusals.{Answer, refused, gave}
use Rattle.agreement.specs.Calls.{Call, Submit, Arrive, Expire, ReadOut, Collect, Set, Said, reported, read, collected, adopted}
use Rattle.agreement.specs.Transcript.{Accepted, accepted, Ledger, newcomer, all_later, ended, settle, settles, numbered, data_sent, sent_told, asked, outcomes_told, ledger_after}
use Rattle.agreement.proofs.Channel.{never}

-- how many outcomes a station tells
abbrev pub outcomes_of : Did → ℕ
outcomes_of d = d.arrivals + (d.give_ups + d.no_connections)

-- what it heard is a message that it takes
abbrev pub taken_by : Heard → ℕ
taken_by (submission m) = 1
taken_by reset = 0
taken_by (ack n k) = 0
taken_by timeout = 0

abbrev pub IsTaken : Phase → Heard → Type 0
IsTaken ph (submission m) = is_off ph ≡ false
IsTaken ph reset = Unit {0}
IsTaken ph (ack n k) = Unit {0}
IsTaken ph timeout = Unit {0}

-- n messages had no outcome, the one that it takes counted
abbrev Counted : ℕ → Did → Type 0
Counted n d = n ≡ outcomes_of d + length (unsettled_in d.next.phase)

one_more : {A : Type 0} (xs : List A) (x : A) → length (xs ++ x ∷ []) ≡ length xs + 1
one_more xs x = length-append xs (x ∷ [])

either : (b : Bool) {n : ℕ} (x y : Did) → Counted n x → Counted n y → Counted n (cond b x y)
either true x y f g = f
either false x y f g = g

arrival_counted : (ms : List Message) (s : Station) → Counted (suc (length ms) + 0) (arrives ms s)
arrival_counted [] s = refl
arrival_counted (m ∷ ms) s = omega arith

pub cell_counted : (M : ℕ) (s : Station) (ph : Phase) (h : Heard) → IsTaken ph h → Counted (length (unsettled_in ph) + taken_by h) (cell M (at ph s) ph h)
cell_counted M s off (submission m) t = never t
cell_counted M s off reset t = refl
cell_counted M s off (ack n k) t = refl
cell_counted M s off timeout t = refl
cell_counted M s ready (submission m) t = refl
cell_counted M s ready reset t = refl
cell_counted M s ready (ack n k) t = refl
cell_counted M s ready timeout t = refl
cell_counted M s (waiting c ms) (submission m) t = let e = one_more ms m in omega arith
cell_counted M s (waiting c ms) reset t = omega arith
cell_counted M s (waiting c ms) (ack n k) t = let x = at (waiting c ms) s in either (beq n s.number) (arrives ms x) (rests x) (arrival_counted ms x) (omega arith)
cell_counted M s (waiting c ms) timeout t = let x = at (waiting c ms) s in either (leb M s.attempts) (gives_up ms x) (asks (asking c ms) x) (omega arith) (omega arith)
cell_counted M s (asking c ms) (submission m) t = let e = one_more ms m in omega arith
cell_counted M s (asking c ms) reset t = omega arith
cell_counted M s (asking c ms) (ack n k) t = let x = at (asking c ms) s in either (beq n s.number) (arrives ms x) (sends_again c ms x) (arrival_counted ms x) (omega arith)
cell_counted M s (asking c ms) timeout t = let x = at (asking c ms) s in either (leb M s.attempts) (gives_up ms x) (asks (asking c ms) x) (omega arith) (omega arith)

-- how many messages a call has accepted
abbrev pub asks_one : Call → ℕ
asks_one (Submit m) = 1
asks_one Arrive = 0
asks_one Expire = 0
asks_one (ReadOut size) = 0
asks_one Collect = 0
asks_one (Set f) = 0

abbrev pub accepted_in : Call → Answer Said → ℕ
accepted_in k (refused n) = 0
accepted_in k (gave (reported letter t)) = asks_one k
accepted_in k (gave (read m)) = 0
accepted_in k (gave (collected o)) = 0
accepted_in k (gave adopted) = 0

-- the accepted messages of a ledger, as a number
abbrev pub size : Ledger → ℕ
size g = length (accepted g)

size_of : (cs ws : List Accepted) → length (cs ++ ws) ≡ length cs + length ws
size_of cs ws = length-append cs ws

settle_size : (o : Outcome) (l : Option Bool) (cs ws : List Accepted) → size (settle o l cs ws) ≡ length (cs ++ ws)
settle_size o l cs [] = refl
settle_size o l cs (e ∷ es) =
    let x = ended o l e in
    let a : length (cs ++ e ∷ es) ≡ length cs + suc (length es) = size_of cs (e ∷ es) in
    let b : length ((cs ++ x ∷ []) ++ es) ≡ length (cs ++ x ∷ []) + length es = size_of (cs ++ x ∷ []) es in
    let d : length (cs ++ x ∷ []) ≡ length cs + 1 = one_more cs x in
    omega arith

settles_size : (o : Outcome) (l : Option Bool) (n : ℕ) (g : Ledger) → size (settles o l n g) ≡ size g
settles_size o l zero g = refl
settles_size o l (suc n) g = settles_size o l n (settle o l g.closed g.waits) ∙ settle_size o l g.closed g.waits

later_length : (es : List Accepted) → length (all_later es) ≡ length es
later_length [] = refl
later_length (e ∷ es) = ap suc (later_length es)

numbered_size : (n : Bool) (cs ws : List Accepted) → length (cs ++ numbered n ws) ≡ length (cs ++ ws)
numbered_size n cs [] = refl
numbered_size n cs (e ∷ es) = size_of cs _ ∙ sym (size_of cs (e ∷ es))

sent_size : (p : Option (ℕ × ℕ)) (g : Ledger) → size (sent_told p g) ≡ size g
sent_size None g = refl
sent_size (Some p) g = go (eqb p.0 0x30) (eqb p.0 0x31)
  where
    go : (a b : Bool) → size (cond a (data_sent false g) (cond b (data_sent true g) g)) ≡ size g
    go true b = numbered_size false g.closed g.waits
    go false true = numbered_size true g.closed g.waits
    go false false = refl

asked_size : (k : Call) (M : ℕ) (g : Ledger) → size (asked k M g) ≡ size g + asks_one k
asked_size (Submit m) M g =
    let a = size_of g.closed (g.waits ++ newcomer m (length g.waits) M ∷ []) in let b = size_of g.closed g.waits in let d = one_more g.waits (newcomer m (length g.waits) M) in omega arith
asked_size Arrive M g = omega arith
asked_size Expire M g = let a = size_of g.closed (all_later g.waits) in let b = size_of g.closed g.waits in let d = later_length g.waits in omega arith
asked_size (ReadOut n) M g = omega arith
asked_size Collect M g = omega arith
asked_size (Set f) M g = omega arith

pub ledger_size : (k : Call) (a : Answer Said) (l : Option Bool) (M : ℕ) (g : Ledger) → size (ledger_after k a l M g) ≡ size g + accepted_in k a
ledger_size k (refused n) l M g = omega arith
ledger_size k (gave (reported letter t)) l M g =
    sent_size t.sent (outcomes_told t l (asked k M g)) ∙ settles_size _ l t.no_connections _ ∙ settles_size _ l t.give_ups _ ∙ settles_size _ l t.arrivals (asked k M g) ∙ asked_size k M g
ledger_size k (gave (read m)) l M g = omega arith
ledger_size k (gave (collected o)) l M g = omega arith
ledger_size k (gave adopted) l M g = omega arith
