-- What is printed of a call from its place is what it did. Assumes nothing.
use Rattle.std.proofs.Common.{◌≡◌, ℕ, List, ◌++◌, length, drop, refl, ap, ◌∙◌}
use Rattle.packet.specs.Refusals.{Answer, refused, gave}
use Rattle.station.specs.End.{Done, burst, placed_by, seen}
use Rattle.station.specs.Reports.{Told, telling}
use Rattle.end_answers.specs.Reports.{report, told_line, done_line}
use Rattle.end_answers.proofs.Placed.{placed_back}

module _ (check : List ℕ → List ℕ) (word : List ℕ) where
  placed : (x : Answer Done) (place : List ℕ) → told_line word (seen (telling check) x) (placed_by check x place) ≡ done_line check word x
  placed (refused n) place = refl
  placed (gave d) place =
      ap (λ bs. word ++ report (telling check d) bs) (placed_back check d (drop (length (burst check d.sent)) place))

  -- what a call told, and what its place then holds
  pub placed_line : (x : Answer Done) (t : Answer Told) (place after : List ℕ) → t ≡ seen (telling check) x → after ≡ placed_by check x place → told_line word t after ≡ done_line check word x
  placed_line x t place after e p = (λ i. told_line word (e i) (p i)) ∙ placed x place
