-- A slip's buffer stays out. Assumes nothing.
use Rattle.std.proofs.Common.{◌≡◌, ℕ, ◌+◌, ◌-◌, ◌%◌, ◌<◌, ◌≤◌, min, Bool, true, false, cond, not, ◌&&◌, eqb, ltb, List, [], ◌∷◌, ◌++◌, length, sym, refl, ◌∙◌, subst, arith, length-append}
use Rattle.std.proofs.lemmas.Bool.Decides.{nat_tests}
use Rattle.packet.specs.Letters.{between}
use Rattle.packet.specs.Refusals.{refused, gave, ◌⇒◌, judged}
use Rattle.packet.specs.declared.number.Number.{Number}
use Rattle.secondary.specs.Laws.{Call, Enq, Data, Take, Give, after_all, Spares, StaysOut}
use Rattle.secondary.specs.Station.{Message, Station, or_kept, free_buffers, oldest_buffer, stored, take_answer, lent, slip_out, freed, give_answer}

pub record Out (line buffer : ℕ) (s : Station) : Type 0 where
  pub out : s.out ≡ true
  pub line_is : s.line ≡ line
  pub buffer_is : oldest_buffer s ≡ buffer
  pub room : length s.held ≤ 8

-- a message more does not move the oldest buffer
pub turned : (next n n' : ℕ) → n < 8 → n' ≡ n + 1 → ((next + 1) % 8 + 8 - n') % 8 ≡ (next + 8 - n) % 8
turned next n n' lt e = omega arith

pub roomy : (limit n : ℕ) → ltb 0 (min limit 8 - n) ≡ true → n < 8
roomy limit n e = grind (arith, nat_tests)

differs : (l b line buffer : ℕ) (out : Bool) → (l ≡ line → b ≡ buffer → ⊥) → eqb l line && (out && eqb b buffer) ≡ false
differs l b line buffer true apart = grind (arith, nat_tests)
differs l b line buffer false apart = grind (arith, nat_tests)

module _ (line buffer : ℕ) where
  out_stored : (n : Number) (m : Message) (s : Station) → length s.held < 8 → Out line buffer s → Out line buffer (stored n m s)
  out_stored n m s lt o =
      let long : length (s.held ++ m ∷ []) ≡ length s.held + 1 = length-append s.held (m ∷ []) in
      record {
        out = o.out;
        line_is = o.line_is;
        buffer_is = turned s.next (length s.held) _ lt long ∙ o.buffer_is;
        room = omega arith;
      }

  -- `t` refuses the message, `u` says that a buffer is free
  out_data : (t u : Bool) (n : Number) (m : Message) (s : Station) → (u ≡ true → length s.held < 8) → Out line buffer s
      → Out line buffer (or_kept (judged (t ⇒ 16 ∷ []) (cond u (stored n m s) s)) s)
  out_data true u n m s lt o = o
  out_data false true n m s lt o = out_stored n m s (lt refl) o
  out_data false false n m s lt o = o

  out_take : (t u : Bool) (s : Station) → s.out ≡ true → Out line buffer s → Out line buffer (or_kept (judged (t ⇒ 21 ∷ s.out ⇒ 22 ∷ u ⇒ 23 ∷ []) (lent s)) s)
  out_take true u s e o = o
  out_take false u s e o = subst (λ (out : Bool). Out line buffer (or_kept (judged (out ⇒ 22 ∷ u ⇒ 23 ∷ []) (lent s)) s)) (sym e) o

  out_give : (ok : Bool) (s : Station) → ok ≡ false → Out line buffer s → Out line buffer (or_kept (judged (not ok ⇒ 24 ∷ []) (freed s)) s)
  out_give ok s e o = subst (λ (t : Bool). Out line buffer (or_kept (judged (not t ⇒ 24 ∷ []) (freed s)) s)) (sym e) o

  other : (l b : ℕ) (s : Station) → Out line buffer s → (l ≡ line → b ≡ buffer → ⊥) → slip_out l b s ≡ false
  other l b s o apart = differs l b s.line (oldest_buffer s) s.out (λ e f. apart (e ∙ o.line_is) (f ∙ o.buffer_is))

  out_after : (cs : List Call) (s : Station) → Spares line buffer cs → Out line buffer s → Out line buffer (after_all cs s)
  out_after [] s h o = o
  out_after (Enq limit ∷ cs) s h o = out_after cs s h o
  out_after (Data limit n m ∷ cs) s h o =
      out_after cs _ h (out_data (not (between 1 96 (length m))) (ltb 0 (free_buffers limit s)) n m s (roomy limit (length s.held)) o)
  out_after (Take size ∷ cs) s h o = out_after cs _ h (out_take (ltb size 96) (eqb (length s.held) 0) s o.out o)
  out_after (Give l b ∷ cs) s h o = out_after cs _ h.1 (out_give (slip_out l b s) s (other l b s o h.0) o)

  take_refused : (size : ℕ) (s : Station) → 96 ≤ size → s.out ≡ true → take_answer size s ≡ refused 22
  take_refused size s le e = let low : ltb size 96 ≡ false = grind (arith, nat_tests) in rw (low, e) refl

  given_back : (s : Station) → Out line buffer s → give_answer line buffer s ≡ gave tt
  given_back s o =
      let l : eqb line s.line ≡ true = grind (arith, nat_tests, o.line_is) in
      let b : eqb buffer (oldest_buffer s) ≡ true = grind (arith, nat_tests, o.buffer_is) in
      let e = o.out in
      rw (l, e, b) refl

  pub stays_out : (s : Station) → Out line buffer s → StaysOut line buffer s
  stays_out s o calls spares =
      let now = out_after calls s spares o in
      (λ size le. take_refused size (after_all calls s) le now.out, given_back (after_all calls s) now)
