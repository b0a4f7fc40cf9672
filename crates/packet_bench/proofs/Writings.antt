-- A packet that was written into a place, taken from there. Assumes nothing.
use Rattle.std.proofs.Common.{◌≡◌, ℕ, ◌+◌, ◌-◌, List, [], ◌∷◌, length, take, drop, ap, ◌∙◌, arith, length-append}
use Rattle.std.proofs.lemmas.List.{take_at}
use Rattle.packet.specs.Format.{packet, covered, writing, writing_rules, after_writing}
use Rattle.packet.specs.Refusals.{refused, gave}
use Rattle.packet.proofs.Judging.{passed}
use Rattle.answers.specs.Lines.{refusal, burst_line}
use Rattle.packet_bench.specs.Printed.{write_line}

module _ (c : ℕ) (check : List ℕ → List ℕ) (sized : (xs : List ℕ) → length (check xs) ≡ c) (l : ℕ) (f : List ℕ) where
  packet_length : length (packet check l f) ≡ length f + 3 + c
  packet_length =
      let checked = length-append (0x02 ∷ covered l f) (check (covered l f)) in
      let framed = length-append f (0x03 ∷ []) in
      omega (arith, sized (covered l f))

  -- the answer is a length: the bytes up to it are the packet
  pub written_line : (n m : ℕ) (place after burst : List ℕ) → length place ≡ n → gave m ≡ writing c l f (length place) → after ≡ after_writing (gave m) (packet check l f) place → burst ≡ take (m - 0) after → burst_line burst ≡ write_line (writing c l f n) (packet check l f)
  written_line n m place after burst room told put cut =
      let end = (passed (writing_rules c l f (length place)) (length f + 3 + c) m told).1 in
      let whole : length (packet check l f) ≡ m - 0 = omega (arith, packet_length) in
      let same = cut ∙ ap (take (m - 0)) put ∙ take_at (packet check l f) (drop m place) (m - 0) whole in
      ap burst_line same ∙ ap (λ r. write_line r (packet check l f)) (told ∙ ap (writing c l f) room)

  -- the answer is a refusal
  pub refused_line : (n k : ℕ) (place : List ℕ) → length place ≡ n → refused k ≡ writing c l f (length place) → refusal k ≡ write_line (writing c l f n) (packet check l f)
  refused_line n k place room told = ap (λ r. write_line r (packet check l f)) (told ∙ ap (writing c l f) room)
