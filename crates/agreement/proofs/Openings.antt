-- What an opening leaves.
use Rattle.std.proofs.Common.{◌≡◌, ℕ, eqb, List, [], ◌∷◌, length, Option, sym, refl, ap, subst, arith}
use Rattle.std.proofs.lemmas.Bool.{eqb-true, and_parts, not-false}
use Rattle.packet.specs.Checks.{Each, Altered}
use Rattle.packet.specs.Refusals.{gave}
use Rattle.packet.proofs.Judging.{passed}
use Rattle.settings.specs.declared.values.Settings.{Settings}
use Rattle.medium.specs.declared.offer.Offer.{Offer}
use Rattle.station.specs.End.{seen}
use Rattle.agreement.specs.Line.{Burst, Line}
use Rattle.agreement.specs.Calls.{Offers, burst_of}
use Rattle.agreement.specs.Opening.{opening_rules, settings_agreed, both_opened}
use Rattle.agreement.specs.Transcript.{opened}
use Rattle.agreement.specs.Promise.{Reached, at_opening, Kept}
use Rattle.agreement.proofs.BothSides.{opened_by}
use Rattle.agreement.proofs.Clauses.{stays_kept}

no_bursts : (bs : List Burst) → length bs ≡ 0 → bs ≡ []
no_bursts [] h = refl
no_bursts (b ∷ bs) h = absurd (omega arith)

-- nothing is under way where an opening is not refused
none_under_way : (w e : List ℕ) (eastward westward : List Burst) (s : Settings × Settings) → gave s ≡ settings_agreed w e eastward westward → (eastward ≡ []) × (westward ≡ [])
none_under_way w e eastward westward s h =
    let all = passed (opening_rules eastward westward) s s (opened_by w e eastward westward s h).2 in
    let empty = and_parts (eqb (length eastward) 0) (eqb (length westward) 0) (not-false _ all.0.0) in
    (no_bursts eastward (eqb-true _ 0 empty.0), no_bursts westward (eqb-true _ 0 empty.1))

module _ (c : ℕ) (check : List ℕ → List ℕ) (sized : (xs : List ℕ) → length (check xs) ≡ c) (tells : (xs ys : List ℕ) → Each 0 0x7f xs → Each 0 0x7f ys → Altered xs ys → check xs ≡ check ys → ⊥) where
  -- the line that was opened is reached, and the promise holds of it
  pub opened_kept : (w e : List ℕ) (s : Settings × Settings) (o p : Option Offer) (eastward westward eastward' westward' : List Burst) → gave s ≡ settings_agreed w e eastward westward
      → let d = both_opened s in Offers eastward (burst_of check d.0.sent) o eastward' → Offers westward (burst_of check d.1.sent) p westward'
      → let l : Line = record { west_end = d.0.next; east_end = d.1.next; eastward = eastward'; westward = westward' } in Reached c check (opened w e o p) l × Kept c check (opened w e o p) l
  opened_kept w e s o p eastward westward eastward' westward' h a b =
      let d = both_opened s in
      let l : Line = record { west_end = d.0.next; east_end = d.1.next; eastward = eastward'; westward = westward' } in
      let empty = none_under_way w e eastward westward s h in
      let x = subst (λ (bs : List Burst). Offers bs (burst_of check d.0.sent) o eastward') empty.0 a in
      let y = subst (λ (bs : List Burst). Offers bs (burst_of check d.1.sent) p westward') empty.1 b in
      let i = subst (λ (bs : List Burst). gave s ≡ settings_agreed w e bs []) empty.0 (subst (λ (bs : List Burst). gave s ≡ settings_agreed w e eastward bs) empty.1 h) in
      let r : Reached c check (opened w e o p) l = at_opening d (ap (seen both_opened) (sym i)) x y in
      (r, stays_kept c check sized tells (opened w e o p) l r)
