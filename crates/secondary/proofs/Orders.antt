-- Deliveries leave in the order stored. Assumes nothing.
use Rattle.std.proofs.Common.{◌≡◌, ℕ, ◌-◌, Bool, true, false, cond, not, ◌&&◌, eqb, ltb, List, [], ◌∷◌, ◌++◌, length, drop, Some, None, Option, sym, refl, ap, ◌∙◌, subst, arith}
use Rattle.std.proofs.lemmas.List.{append_assoc, append-nil}
use Rattle.packet.specs.Letters.{between}
use Rattle.packet.specs.Refusals.{◌⇒◌, judged}
use Rattle.packet.specs.declared.number.Number.{Number}
use Rattle.secondary.specs.declared.reply.Answer.TheVariants.{Ack}
use Rattle.secondary.specs.Buffers.{oldest_of}
use Rattle.secondary.specs.Laws.{Call, Enq, Data, Take, Give, after, after_all, acked, stored_by, in_hand, given_by, stored_all, given_all, LeaveInOrder}
use Rattle.secondary.specs.Station.{Message, Station, or_kept, free_buffers, oldest_buffer, stored, lent, freed, opened}

-- the message in hand is the oldest one held while one is out, and none else
abbrev Hand : List Message → Bool → List Message → Type 0
Hand hand true held = (m : Message) × (ms : List Message) × (hand ≡ m ∷ []) × (held ≡ m ∷ ms)
Hand hand false held = hand ≡ []

-- one call: what it gives back and what is held then, is what was held and what it stores
record Step (hand given stores next-hand : List Message) (s next : Station) : Type 0 where
  adds : given ++ next.held ≡ s.held ++ stores
  holds : Hand next-hand next.out next.held

nothing : (hand : List Message) (s : Station) → Hand hand s.out s.held → Step hand [] [] hand s s
nothing hand s h = record { adds = sym (append-nil s.held); holds = h }

hand_more : (hand : List Message) (out : Bool) (held : List Message) (m : Message) → Hand hand out held → Hand hand out (held ++ m ∷ [])
hand_more hand true held m h = (h.0, h.1 ++ m ∷ [], h.2, ap (λ (xs : List Message). xs ++ m ∷ []) h.3)
hand_more hand false held m h = h

-- `t` refuses the message, `u` says that a buffer is free
step_data : (t u : Bool) (n : Number) (credit : ℕ) (m : Message) (hand : List Message) (s : Station) → Hand hand s.out s.held
    → Step hand [] (acked (judged (t ⇒ 16 ∷ []) (cond u (Some (Ack n credit)) None)) m) hand s (or_kept (judged (t ⇒ 16 ∷ []) (cond u (stored n m s) s)) s)
step_data true u n credit m hand s h = nothing hand s h
step_data false true n credit m hand s h = record { adds = refl; holds = hand_more hand s.out s.held m h }
step_data false false n credit m hand s h = nothing hand s h

some_held : (held : List Message) → eqb (length held) 0 ≡ false → (m : Message) × (ms : List Message) × (held ≡ m ∷ ms)
some_held [] e = absurd (let z : ◌≡◌ {A = ℕ} 0 1 = cc in omega arith)
some_held (m ∷ ms) e = (m, ms, refl)

-- `t` refuses the place, `u` says that none is held
step_take : (t u out : Bool) (line : ℕ) (last : Option Number) (held : List Message) (next : ℕ) (hand : List Message)
    → (u ≡ false → (m : Message) × (ms : List Message) × (held ≡ m ∷ ms)) → Hand hand out held
    → let s : Station = record { line = line; last = last; held = held; next = next; out = out } in
    Step hand [] [] (or_kept (judged (t ⇒ 21 ∷ out ⇒ 22 ∷ u ⇒ 23 ∷ []) (oldest_of held ∷ [])) hand) s (or_kept (judged (t ⇒ 21 ∷ out ⇒ 22 ∷ u ⇒ 23 ∷ []) (lent s)) s)
step_take true u out line last held next hand some h = nothing hand _ h
step_take false u true line last held next hand some h = nothing hand _ h
step_take false true false line last held next hand some h = nothing hand _ h
step_take false false false line last held next hand some h =
    let first = some refl in
    record { adds = sym (append-nil held); holds = (first.0, first.1, ap (λ (ms : List Message). oldest_of ms ∷ []) first.2, first.2) }

-- `x` and `y` say that line number and buffer number fit
step_give : (x y out : Bool) (line : ℕ) (last : Option Number) (held : List Message) (next : ℕ) (hand : List Message) → Hand hand out held
    → let s : Station = record { line = line; last = last; held = held; next = next; out = out } in
    Step hand (or_kept (judged (not (x && (out && y)) ⇒ 24 ∷ []) hand) []) [] (or_kept (judged (not (x && (out && y)) ⇒ 24 ∷ []) []) hand) s
    (or_kept (judged (not (x && (out && y)) ⇒ 24 ∷ []) (freed s)) s)
step_give false y out line last held next hand h = nothing hand _ h
step_give true y false line last held next hand h = nothing hand _ h
step_give true false true line last held next hand h = nothing hand _ h
step_give true true true line last held next hand h =
    let hand-is = h.2 in
    let held-is = h.3 in
    record {
      adds =
          ap (λ (xs : List Message). xs ++ drop 1 held) hand-is
          ∙ ap (λ (xs : List Message). (h.0 ∷ []) ++ drop 1 xs) held-is
          ∙ sym held-is ∙ sym (append-nil held);
      holds = refl;
    }

step : (c : Call) (hand : List Message) (s : Station) → Hand hand s.out s.held → Step hand (given_by hand c s) (stored_by c s) (in_hand hand c s) s (after c s)
step (Enq limit) hand s h = nothing hand s h
step (Data limit n m) hand s h = step_data (not (between 1 96 (length m))) (ltb 0 (free_buffers limit s)) n (free_buffers limit s - 1) m hand s h
step (Take size) hand s h = step_take (ltb size 96) (eqb (length s.held) 0) s.out s.line s.last s.held s.next hand (some_held s.held) h
step (Give line buffer) hand s h = step_give (eqb line s.line) (eqb buffer (oldest_buffer s)) s.out s.line s.last s.held s.next hand h

order : (cs : List Call) (hand : List Message) (s : Station) → Hand hand s.out s.held → given_all hand cs s ++ (after_all cs s).held ≡ s.held ++ stored_all cs s
order [] hand s h = sym (append-nil s.held)
order (c ∷ cs) hand s h =
    let one = step c hand s h in
    append_assoc (given_by hand c s) (given_all (in_hand hand c s) cs (after c s)) (after_all cs (after c s)).held
    ∙ ap (λ (xs : List Message). given_by hand c s ++ xs) (order cs (in_hand hand c s) (after c s) one.holds)
    ∙ sym (append_assoc (given_by hand c s) (after c s).held (stored_all cs (after c s)))
    ∙ ap (λ (xs : List Message). xs ++ stored_all cs (after c s)) one.adds
    ∙ append_assoc s.held (stored_by c s) (stored_all cs (after c s))

pub leave_in_order : (line : ℕ) (s : Station) → s ≡ opened line → LeaveInOrder s
leave_in_order line s e = subst LeaveInOrder (sym e) (λ calls. order calls [] (opened line) refl)
