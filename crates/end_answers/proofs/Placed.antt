-- A burst that a call wrote to the front of its place, read from there. Assumes nothing.
use Rattle.std.proofs.Common.{◌≡◌, ℕ, List, ◌++◌, length, take, Some, None, Option, refl}
use Rattle.std.specs.Option.{option_map, unwrap_or}
use Rattle.std.proofs.lemmas.List.{take_at}
use Rattle.packet.specs.Format.{packet}
use Rattle.station.specs.End.{Done, burst}
use Rattle.station.specs.Reports.{telling}
use Rattle.end_answers.specs.Reports.{placed_burst}

module _ (check : List ℕ → List ℕ) where
  -- as many bytes as were sent, from a place that begins with them
  taken_back : (p : Option (ℕ × List ℕ)) (rest : List ℕ) → take (unwrap_or (option_map (λ (q : ℕ × ℕ). q.1) (option_map (λ (q : ℕ × List ℕ). (q.0, length (packet check q.0 q.1))) p)) 0) (burst check p ++ rest) ≡ burst check p
  taken_back None rest = refl
  taken_back (Some p) rest = take_at (packet check p.0 p.1) rest (length (packet check p.0 p.1)) refl

  pub placed_back : (d : Done) (rest : List ℕ) → placed_burst (telling check d) (burst check d.sent ++ rest) ≡ burst check d.sent
  placed_back d rest = taken_back d.sent rest
