-- Ends with the same parts are the same end. Assumes nothing.
use Rattle.std.proofs.Common.{◌≡◌, ◌≤◌, true, OnErr, Result}
use Rattle.std.proofs.lemmas.Result.{on_err_weaker}
use mathlib.Core.Bool.{Bool-set}
use mathlib.Core.HLevel.{is_prop→PathP}
use native.Mathlib.Bridge.{le_prop}
use Rattle.packet.specs.declared.checks.Check as check
use Rattle.primary.specs.Model.{model}
use Rattle.primary.specs.Station.{unsettled_in}
use Rattle.station.specs.declared.end.End.{End}
use Rattle.station.specs.Valid.{all_valid}

-- what the ghost fields say has one proof at most
pub same_end : {K : Type 0} {g : check.Ghosts K} (e e' : End K g) → e'.of ≡ e.of → e'.settings ≡ e.settings → e'.primary ≡ e.primary → e'.secondary ≡ e.secondary → e' ≡ e
same_end e e' k s p q =
    λ i. record {
      of = k i;
      settings = s i;
      primary = p i;
      secondary = q i;
      sendable = is_prop→PathP (λ j. all_valid (unsettled_in (model (p j)).phase) ≡ true) (λ j. Bool-set _ _) e'.sendable e.sendable i;
      limited = is_prop→PathP (λ j. (s j).attempt_limit ≤ 255) (λ j. le_prop) e'.limited e.limited i;
    }

-- a call on one of the two stations: where it is refused and leaves that station, it leaves the end
module _ {K A B : Type 0} {g : check.Ghosts K} (r : Result A B) (e e' : End K g) (k : e'.of ≡ e.of) (s : e'.settings ≡ e.settings) where
  pub primary_alone : e'.secondary ≡ e.secondary → OnErr r (e'.primary ≡ e.primary) → OnErr r (e' ≡ e)
  primary_alone q h = on_err_weaker r (λ p. same_end e e' k s p q) h

  pub secondary_alone : e'.primary ≡ e.primary → OnErr r (e'.secondary ≡ e.secondary) → OnErr r (e' ≡ e)
  secondary_alone p h = on_err_weaker r (λ q. same_end e e' k s p q) h
