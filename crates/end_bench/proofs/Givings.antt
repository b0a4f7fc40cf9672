-- A slip is given to an end, and fits or does not. Assumes nothing.
use Rattle.std.proofs.Common.{◌≡◌, ◌≢◌, Bool, true, false, cond, not, ◌&&◌, eqb, [], ◌∷◌, Some, None, sym, refl, ap, ◌∙◌, inl, inr, arith}
use Rattle.std.proofs.lemmas.Bool.{and_parts}
use Rattle.std.proofs.lemmas.Bool.Decides.{nat_tests}
use Rattle.packet.specs.Refusals.{◌⇒◌, judged}
use Rattle.secondary.specs.Station.{oldest_buffer, slip_out, freed, or_kept}
use Rattle.station.specs.End.{End, with_secondary}
use Rattle.end_bench.specs.Calls.{given}
use Rattle.end_bench.specs.Closing.{all_back, closed, given_to, Fits, GivenToOne}
use Rattle.end_bench.specs.Fair.{Slip, lent, lent_by}
use Rattle.end_bench.specs.Named.{Named}
use Rattle.end_bench.proofs.Balance.{fits}
use Rattle.end_bench.proofs.Closings.{same_end}

-- the slip n, and the delivery that is out
module _ (n : Slip) (e : End) where
  fit : lent_by e.secondary ≡ Some n → slip_out n.0 n.1 e.secondary ≡ true
  fit h = go e.secondary.out h
    where
      go : (o : Bool) → cond o (Some (e.secondary.line, oldest_buffer e.secondary)) None ≡ Some n → eqb n.0 e.secondary.line && (o && eqb n.1 (oldest_buffer e.secondary)) ≡ true
      go true is =
          let p : ◌≡◌ {A = Slip} (e.secondary.line, oldest_buffer e.secondary) n = cc in
          let l : e.secondary.line ≡ n.0 = ap (λ (q : Slip). q.0) p in
          let b : oldest_buffer e.secondary ≡ n.1 = ap (λ (q : Slip). q.1) p in
          grind (arith, nat_tests)
      go false is = cc

  out : lent_by e.secondary ≡ Some n → e.secondary.out ≡ true
  out h = (and_parts e.secondary.out (eqb n.1 (oldest_buffer e.secondary)) (and_parts (eqb n.0 e.secondary.line) (e.secondary.out && eqb n.1 (oldest_buffer e.secondary)) (fit h)).1).0

  by_fit : (ok : Bool) → slip_out n.0 n.1 e.secondary ≡ ok → given (Some n) e ≡ with_secondary (or_kept (judged (not ok ⇒ 24 ∷ []) (freed e.secondary)) e.secondary) e
  by_fit ok h = ap (λ (b : Bool). with_secondary (or_kept (judged (not b ⇒ 24 ∷ []) (freed e.secondary)) e.secondary) e) h

  closes : lent_by e.secondary ≡ Some n → given (Some n) e ≡ all_back e
  closes h = by_fit true (fit h) ∙ sym (ap (λ o. cond o (with_secondary (freed e.secondary) e) e) (out h))

  kept : lent_by e.secondary ≢ Some n → given (Some n) e ≡ e
  kept ne = go (slip_out n.0 n.1 e.secondary) refl
    where
      go : (ok : Bool) → slip_out n.0 n.1 e.secondary ≡ ok → given (Some n) e ≡ e
      go true h = absurd (ne (fits n.0 n.1 e.secondary.line (oldest_buffer e.secondary) e.secondary.out h))
      go false h = by_fit false h

fits_closes : (n : Slip) (x : Named) → lent x ≡ Some n → given_to n x ≡ closed x
fits_closes n None h = refl
fits_closes n (Some p) h = ap (λ (e : End). Some (p.0, e)) (closes n p.1 h)

other_kept : (n : Slip) (x : Named) → lent x ≢ Some n → given_to n x ≡ x
other_kept n None h = refl
other_kept n (Some p) h = ap (λ (e : End). Some (p.0, e)) (kept n p.1 h)

-- no slip, one that fits the first of two ends, and one that does not
pub none_given : (x y : Named) → Fits None x y → GivenToOne None x y x y
none_given x y (inl h) = inl (h, sym (same_end x (sym h)), refl)
none_given x y (inr h) = inr (h, refl, sym (same_end y (sym h)))

pub first_given : (n : Slip) (x y x' : Named) → lent x ≡ Some n → x' ≡ given_to n x → GivenToOne (Some n) x y x' y
first_given n x y x' h a = inl (sym h, a ∙ fits_closes n x h, refl)

-- m has the numbers of the slip that was handed back
pub second_given : (n m : Slip) (x y x' y' : Named) → m ≡ n → Fits (Some n) x y → lent x ≢ Some n → x' ≡ given_to n x → y' ≡ given_to m y → GivenToOne (Some n) x y x' y'
second_given n m x y x' y' same (inl h) ne a b = absurd (ne (sym h))
second_given n m x y x' y' same (inr h) ne a b = inr (h, a ∙ other_kept n x ne, b ∙ ap (λ (k : Slip). given_to k y) same ∙ fits_closes n y (sym h))
