-- Slips stay fairly kept. Assumes nothing.
use Rattle.std.proofs.Common.{◌≡◌, ℕ, Bool, true, false, ◌&&◌, ◌||◌, ◌⊎◌, Some, None, Option, sym, refl, ap, ◌∙◌, subst, inl, inr, arith}
use Rattle.std.proofs.Math.Bool.{or-true}
use Rattle.std.proofs.lemmas.Bool.{and_parts}
use Rattle.std.proofs.lemmas.Bool.Decides.{nat_tests}
use Rattle.end_script.specs.Calls as call
use Rattle.end_bench.specs.Calls.{both_after}
use Rattle.end_bench.specs.Fair.{Slip, lent, same, fair}
use Rattle.end_bench.specs.Named.{Named}
use Rattle.end_bench.proofs.Balance.{Balanced, balanced}

abbrev pub Fair : Option Slip → Option Slip → Option Slip → Option Slip → Type 0
Fair s t x y = ((s ≡ x) × (t ≡ y)) ⊎ ((s ≡ y) × (t ≡ x))

same_is : (s t : Option Slip) → same s t ≡ true → s ≡ t
same_is None None e = refl
same_is None (Some q) e = let z : ◌≡◌ {A = ℕ} 0 1 = cc in absurd (omega arith)
same_is (Some p) None e = let z : ◌≡◌ {A = ℕ} 0 1 = cc in absurd (omega arith)
same_is (Some p) (Some q) e =
    let l : p.0 ≡ q.0 = grind (arith, nat_tests) in
    let b : p.1 ≡ q.1 = grind (arith, nat_tests) in
    λ i. Some (l i, b i)

same_self : (s : Option Slip) → same s s ≡ true
same_self None = refl
same_self (Some p) = grind (arith, nat_tests)

is_same : (s t : Option Slip) → s ≡ t → same s t ≡ true
is_same s t e = subst (λ (v : Option Slip). same s v ≡ true) e (same_self s)

either : (x y : Bool) → x || y ≡ true → (x ≡ true) ⊎ (y ≡ true)
either true y e = inl refl
either false y e = inr e

module _ (s t x y : Option Slip) where
  pub is_fair : fair s t x y ≡ true → Fair s t x y
  is_fair e =
      elim (either (same s x && same t y) (same s y && same t x) e) [
        | inl h ↦ let p = and_parts (same s x) (same t y) h in inl (same_is s x p.0, same_is t y p.1)
        | inr h ↦ let p = and_parts (same s y) (same t x) h in inr (same_is s y p.0, same_is t x p.1)
      ]

  fair_is : Fair s t x y → fair s t x y ≡ true
  fair_is (inl h) = rw (is_same s x h.0, is_same t y h.1) refl
  fair_is (inr h) = rw (is_same s y h.0, is_same t x h.1) (or-true (same s x && same t y))

module _ (s t x y x' s' : Option Slip) where
  moved : Fair s t x y → Balanced x s x' s' → Fair s' t x' y
  moved (inl f) (inl m) = inl (m.1 ∙ f.0 ∙ sym m.0, f.1)
  moved (inr f) (inl m) = inr (m.1 ∙ f.0, f.1 ∙ sym m.0)
  moved (inl f) (inr m) = inl (sym m.1, f.1)
  moved (inr f) (inr m) = inl (sym m.1, f.1 ∙ m.0 ∙ f.0)

-- the names may be exchanged, of both or of the slips alone
exchanged : (s t x y : Option Slip) → Fair s t x y → Fair t s y x
exchanged s t x y (inl f) = inl (f.1, f.0)
exchanged s t x y (inr f) = inr (f.1, f.0)

crossed : (s t x y : Option Slip) → Fair s t x y → Fair t s x y
crossed s t x y (inl f) = inr (f.1, f.0)
crossed s t x y (inr f) = inl (f.1, f.0)

-- a call on the end e with the slip s, and then e' and s'; the other name has o out, and t is kept for the other
module _ (e : Named) (s : Option Slip) (k : call.Call) (e' : Named) (s' : Option Slip) (left : (◌≡◌ {A = Named × Option Slip} (e', s') (e, s)) ⊎ ((e', s') ≡ both_after e s k)) where
  move : Balanced (lent e) s (lent e') s'
  move =
      elim left [
        | inl h ↦ inl (ap (λ p. lent p.0) h, ap (λ p. p.1) h)
        | inr h ↦ subst (λ (p : Named × Option Slip). Balanced (lent e) s (lent p.0) p.1) (sym h) (balanced e s k)
      ]

  still : (t o : Option Slip) → Fair s t (lent e) o → Fair s' t (lent e') o
  still t o f = moved s t (lent e) o (lent e') s' f move

  -- by the names of the end and of the slip
  pub fair_a_a : (t o : Option Slip) → fair s t (lent e) o ≡ true → fair s' t (lent e') o ≡ true
  fair_a_a t o f = fair_is s' t (lent e') o (still t o (is_fair s t (lent e) o f))

  pub fair_a_b : (t o : Option Slip) → fair t s (lent e) o ≡ true → fair t s' (lent e') o ≡ true
  fair_a_b t o f = fair_is t s' (lent e') o (crossed s' t (lent e') o (still t o (crossed t s (lent e) o (is_fair t s (lent e) o f))))

  pub fair_b_a : (t o : Option Slip) → fair s t o (lent e) ≡ true → fair s' t o (lent e') ≡ true
  fair_b_a t o f = fair_is s' t o (lent e') (crossed t s' o (lent e') (exchanged s' t (lent e') o (still t o (exchanged t s o (lent e) (crossed s t o (lent e) (is_fair s t o (lent e) f))))))

  pub fair_b_b : (t o : Option Slip) → fair t s o (lent e) ≡ true → fair t s' o (lent e') ≡ true
  fair_b_b t o f = fair_is t s' o (lent e') (exchanged s' t (lent e') o (still t o (exchanged t s o (lent e) (is_fair t s o (lent e) f))))
