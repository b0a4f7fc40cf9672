-- The line that an opening makes is reached, and the promise holds of it.
use Rattle.std.proofs.Common.{◌≡◌, ℕ, List, length, Option, sym, subst}
use Rattle.packet.specs.Checks.{Each, Altered}
use Rattle.packet.specs.Refusals.{gave}
use Rattle.settings.specs.declared.values.Settings.{Settings}
use Rattle.medium.specs.declared.offer.Offer.{Offer}
use Rattle.station.specs.End.{End}
use Rattle.agreement.specs.Line.{Burst, Line}
use Rattle.agreement.specs.Calls.{Offers, burst_of}
use Rattle.agreement.specs.Opening.{settings_agreed, both_opened}
use Rattle.agreement.specs.Transcript.{opened}
use Rattle.agreement.specs.Promise.{Reached, Kept}
use Rattle.agreement.proofs.Openings.{opened_kept}

module _ (c : ℕ) (check : List ℕ → List ℕ) (sized : (xs : List ℕ) → length (check xs) ≡ c) (tells : (xs ys : List ℕ) → Each 0 0x7f xs → Each 0 0x7f ys → Altered xs ys → check xs ≡ check ys → ⊥) where
  pub begun : (w e : List ℕ) (s : Settings × Settings) (o p : Option Offer) (eastward westward eastward' westward' : List Burst) (m n : End) → gave s ≡ settings_agreed w e eastward westward
      → let d = both_opened s in m ≡ d.0.next → n ≡ d.1.next → Offers eastward (burst_of check d.0.sent) o eastward' → Offers westward (burst_of check d.1.sent) p westward'
      → let l : Line = record { west_end = m; east_end = n; eastward = eastward'; westward = westward' } in Reached c check (opened w e o p) l × Kept c check (opened w e o p) l
  begun w e s o p eastward westward eastward' westward' m n h x y a b =
      let holds = λ (l : Line). Reached c check (opened w e o p) l × Kept c check (opened w e o p) l in
      subst (λ (z : End). holds (record { west_end = z; east_end = n; eastward = eastward'; westward = westward' })) (sym x)
      (subst (λ (z : End). holds (record { west_end = (both_opened s).0.next; east_end = z; eastward = eastward'; westward = westward' })) (sym y)
      (opened_kept c check sized tells w e s o p eastward westward eastward' westward' h a b))
