-- Two slips that are fairly kept are given back one after the other. Assumes nothing.
use Rattle.std.proofs.Common.{◌≡◌, Bool, true, false, cond, Some, None, Option, sym, refl, ap, ◌∙◌, inl, inr}
use Rattle.secondary.specs.Station.{oldest_buffer, freed}
use Rattle.station.specs.End.{End, with_secondary}
use Rattle.end_bench.specs.Closing.{closed, Fits, GivenToOne}
use Rattle.end_bench.specs.Fair.{Slip, lent, lent_by, fair}
use Rattle.end_bench.specs.Named.{Named}
use Rattle.end_bench.proofs.Fairness.{Fair, is_fair}

-- by whether a delivery is out
none_back : (o : Bool) (e : End) → e.secondary.out ≡ o → lent_by (cond o (with_secondary (freed e.secondary) e) e).secondary ≡ None
none_back true e is = refl
none_back false e is = ap (λ o. cond o (Some (e.secondary.line, oldest_buffer e.secondary)) None) is

pub none_lent : (x : Named) → lent (closed x) ≡ None
none_lent None = refl
none_lent (Some p) = none_back p.1.secondary.out p.1 refl

kept_by : (o : Bool) (e : End) (s : Slip) → cond o (Some s) None ≡ None → cond o (with_secondary (freed e.secondary) e) e ≡ e
kept_by true e s h = cc
kept_by false e s h = refl

-- an end that has none out is as it was
pub same_end : (x : Named) → lent x ≡ None → closed x ≡ x
same_end None h = refl
same_end (Some p) h = ap (λ (e : End). Some (p.0, e)) (kept_by p.1.secondary.out p.1 (p.1.secondary.line, oldest_buffer p.1.secondary) h)

closed_again : (x : Named) → closed (closed x) ≡ closed x
closed_again x = same_end (closed x) (none_lent x)

module _ (s t : Option Slip) (x y : Named) where
  first_fits : Fair s t (lent x) (lent y) → Fits s x y
  first_fits (inl f) = inl f.0
  first_fits (inr f) = inr f.0

  module _ (x' y' : Named) where
    second_fits : Fair s t (lent x) (lent y) → GivenToOne s x y x' y' → Fits t x' y'
    second_fits (inl f) (inl g) = inr (f.1 ∙ ap lent (sym g.2))
    second_fits (inr f) (inl g) = inr (f.1 ∙ sym g.0 ∙ f.0 ∙ ap lent (sym g.2))
    second_fits (inl f) (inr g) = inl (f.1 ∙ sym g.0 ∙ f.0 ∙ ap lent (sym g.1))
    second_fits (inr f) (inr g) = inl (f.1 ∙ ap lent (sym g.1))

    -- after both, each end is closed
    module _ (x'' y'' : Named) where
      -- the first slip closed the second end, and the other slip fits the first
      at_first : x' ≡ x → y' ≡ closed y → t ≡ lent x' → GivenToOne t x' y' x'' y'' → (x'' ≡ closed x) × (y'' ≡ closed y)
      at_first p q e (inl h) = (h.1 ∙ ap closed p, h.2 ∙ q)
      at_first p q e (inr h) =
          let none : lent x ≡ None = ap lent (sym p) ∙ sym e ∙ h.0 ∙ ap lent q ∙ none_lent y in
          (h.1 ∙ p ∙ sym (same_end x none), h.2 ∙ ap closed q ∙ closed_again y)

      at_second : x' ≡ closed x → y' ≡ y → t ≡ lent y' → GivenToOne t x' y' x'' y'' → (x'' ≡ closed x) × (y'' ≡ closed y)
      at_second p q e (inl h) =
          let none : lent y ≡ None = ap lent (sym q) ∙ sym e ∙ h.0 ∙ ap lent p ∙ none_lent x in
          (h.1 ∙ ap closed p ∙ closed_again x, h.2 ∙ q ∙ sym (same_end y none))
      at_second p q e (inr h) = (h.1 ∙ p, h.2 ∙ ap closed q)

      both_closed : Fair s t (lent x) (lent y) → GivenToOne s x y x' y' → GivenToOne t x' y' x'' y'' → (x'' ≡ closed x) × (y'' ≡ closed y)
      both_closed (inl f) (inl g) h = at_second g.1 g.2 (f.1 ∙ ap lent (sym g.2)) h
      both_closed (inr f) (inl g) h = at_second g.1 g.2 (f.1 ∙ sym g.0 ∙ f.0 ∙ ap lent (sym g.2)) h
      both_closed (inl f) (inr g) h = at_first g.1 g.2 (f.1 ∙ sym g.0 ∙ f.0 ∙ ap lent (sym g.1)) h
      both_closed (inr f) (inr g) h = at_first g.1 g.2 (f.1 ∙ ap lent (sym g.1)) h

module _ (s t : Option Slip) (x y : Named) (f : fair s t (lent x) (lent y) ≡ true) where
  pub one_fits : Fits s x y
  one_fits = first_fits s t x y (is_fair s t (lent x) (lent y) f)

  pub other_fits : (x' y' : Named) → GivenToOne s x y x' y' → Fits t x' y'
  other_fits x' y' = second_fits s t x y x' y' (is_fair s t (lent x) (lent y) f)

-- by the names of the ends
module _ (s t : Option Slip) (x y x' y' x'' y'' : Named) where
  both : fair s t (lent x) (lent y) ≡ true → GivenToOne s x y x' y' → GivenToOne t x' y' x'' y'' → (x'' ≡ closed x) × (y'' ≡ closed y)
  both f = both_closed s t x y x' y' x'' y'' (is_fair s t (lent x) (lent y) f)

  pub a_closed : fair s t (lent x) (lent y) ≡ true → GivenToOne s x y x' y' → GivenToOne t x' y' x'' y'' → x'' ≡ closed x
  a_closed f g h = (both f g h).0

  pub b_closed : fair s t (lent x) (lent y) ≡ true → GivenToOne s x y x' y' → GivenToOne t x' y' x'' y'' → y'' ≡ closed y
  b_closed f g h = (both f g h).1

  pub none_out : fair s t (lent x) (lent y) ≡ true → GivenToOne s x y x' y' → GivenToOne t x' y' x'' y'' → (lent x'' ≡ None) × (lent y'' ≡ None)
  none_out f g h = (ap lent (a_closed f g h) ∙ none_lent x, ap lent (b_closed f g h) ∙ none_lent y)
