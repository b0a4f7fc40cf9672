-- Messages without outcome can be sent, whatever the primary station hears. Assumes nothing.
use Rattle.std.proofs.Common.{◌≡◌, ℕ, Bool, true, false, cond, leb, List, [], ◌∷◌, ◌++◌, length, IfErr, Ok, Err, Result, sym, refl, ap, ◌∙◌}
use mathlib.Core.Bool.{beq}
use Rattle.std.proofs.lemmas.Bool.{and_parts, and_from, not-false}
use Rattle.packet.specs.Letters.{between, each_between}
use Rattle.packet.specs.Refusals.{gave, answer}
use Rattle.packet.specs.declared.refusal.Refusal.{Refusal}
use Rattle.packet.proofs.Judging.{passed, Passed}
use Rattle.primary.specs.declared.event.Step.{Step}
use Rattle.primary.specs.declared.station.Primary.{Primary}
use Rattle.primary.specs.Model.{model, did}
use Rattle.primary.specs.Station.{Phase, off, ready, waiting, asking, Station, Heard, submission, reset, ack, timeout, Did, unsettled_in}
use Rattle.primary.specs.Table.{cell, hears, rules, step_of, arrives, rests, gives_up, asks, sends_again}
use Rattle.station.specs.Valid.{valid, all_valid}

abbrev pub Sendable : Phase → Type 0
Sendable ph = all_valid (unsettled_in ph) ≡ true

-- a message that is heard can be sent
abbrev pub HeardValid : Heard → Type 0
HeardValid (submission m) = valid m ≡ true
HeardValid reset = Unit {0}
HeardValid (ack n k) = Unit {0}
HeardValid timeout = Unit {0}

pub heard_valid : (h : Heard) (s : Station) → Passed (rules h s) → HeardValid h
heard_valid (submission m) s p = and_from (between 1 96 (length m)) (each_between 0x20 0x7e m) (not-false _ p.0) (not-false _ p.1.0)
heard_valid reset s p = tt
heard_valid (ack n k) s p = tt
heard_valid timeout s p = tt

pub joined : (ms : List (List ℕ)) (m : List ℕ) → all_valid ms ≡ true → valid m ≡ true → all_valid (ms ++ m ∷ []) ≡ true
joined [] m v w = and_from (valid m) true w refl
joined (x ∷ ms) m v w = let p = and_parts (valid x) (all_valid ms) v in and_from (valid x) (all_valid (ms ++ m ∷ [])) p.0 (joined ms m p.1 w)

arrives_valid : (ms : List (List ℕ)) (s : Station) → all_valid ms ≡ true → Sendable (arrives ms s).next.phase
arrives_valid [] s v = refl
arrives_valid (m ∷ ms) s v = v

-- one of two ways
either : (b : Bool) (x y : Did) → Sendable x.next.phase → Sendable y.next.phase → Sendable (cond b x y).next.phase
either true x y p q = p
either false x y p q = q

pub cell_valid : (M : ℕ) (s : Station) (ph : Phase) (h : Heard) → s.phase ≡ ph → HeardValid h → Sendable ph → Sendable (cell M s ph h).next.phase
cell_valid M s off (submission m) e w v = ap (λ (p : Phase). all_valid (unsettled_in p)) e
cell_valid M s off reset e w v = refl
cell_valid M s off (ack n k) e w v = refl
cell_valid M s off timeout e w v = refl
cell_valid M s ready (submission m) e w v = and_from (valid m) true w refl
cell_valid M s ready reset e w v = ap (λ (p : Phase). all_valid (unsettled_in p)) e
cell_valid M s ready (ack n k) e w v = ap (λ (p : Phase). all_valid (unsettled_in p)) e
cell_valid M s ready timeout e w v = ap (λ (p : Phase). all_valid (unsettled_in p)) e
cell_valid M s (waiting c ms) (submission m) e w v = joined (c ∷ ms) m v w
cell_valid M s (waiting c ms) reset e w v = ap (λ (p : Phase). all_valid (unsettled_in p)) e ∙ v
cell_valid M s (waiting c ms) (ack n k) e w v =
    either (beq n s.number) (arrives ms s) (rests s) (arrives_valid ms s (and_parts (valid c) (all_valid ms) v).1) (ap (λ (p : Phase). all_valid (unsettled_in p)) e ∙ v)
cell_valid M s (waiting c ms) timeout e w v = either (leb M s.attempts) (gives_up ms s) (asks (asking c ms) s) refl v
cell_valid M s (asking c ms) (submission m) e w v = joined (c ∷ ms) m v w
cell_valid M s (asking c ms) reset e w v = v
cell_valid M s (asking c ms) (ack n k) e w v = either (beq n s.number) (arrives ms s) (sends_again c ms s) (arrives_valid ms s (and_parts (valid c) (all_valid ms) v).1) v
cell_valid M s (asking c ms) timeout e w v = either (leb M s.attempts) (gives_up ms s) (asks (asking c ms) s) refl v

pub same_phase : (h : Heard) (s : Station) → (hears h s).phase ≡ s.phase
same_phase (submission m) s = refl
same_phase reset s = refl
same_phase (ack n k) s = refl
same_phase timeout s = refl

next_valid : (M : ℕ) (s : Station) (h : Heard) (d : Did) → Sendable s.phase → gave d ≡ step_of M s h → Sendable d.next.phase
next_valid M s h d v e =
    let p = passed (rules h s) (cell M (hears h s) s.phase h) d e in
    ap (λ (x : Did). all_valid (unsettled_in x.next.phase)) (sym p.1) ∙ cell_valid M (hears h s) s.phase h (same_phase h s) (heard_valid h s p.0) v

pub step_valid : (M : ℕ) (h : Heard) (p q : Primary) (r : Result Step Refusal) → Sendable (model p).phase → answer (did q) r ≡ step_of M (model p) h → IfErr r (λ _. q ≡ p) → Sendable (model q).phase
step_valid M h p q (Ok x) v e u = next_valid M (model p) h (did q x) v e
step_valid M h p q (Err x) v e u = ap (λ (z : Primary). all_valid (unsettled_in (model z).phase)) u ∙ v
