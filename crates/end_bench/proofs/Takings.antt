-- A delivery that was taken to a place, read from there. Assumes nothing.
use Rattle.std.proofs.Common.{◌≡◌, ℕ, ◌-◌, ◌≤◌, false, List, ◌++◌, length, take, drop, sym, ap, ◌∙◌, arith, length-append}
use Rattle.std.proofs.lemmas.List.{take_at}
use Rattle.packet.specs.Refusals.{gave}
use Rattle.packet.proofs.Judging.{Passed, passed}
use Rattle.secondary.specs.Buffers.{oldest_of}
use Rattle.secondary.specs.Station.{Station, take_rules, take_answer, place_after, copied}
use Rattle.secondary.proofs.Turns.{changed}
use Rattle.end_bench.specs.Calls.{take_line}

-- the rules of the take are passed
module _ (s : Station) (n l b : ℕ) (place after : List ℕ) (told : gave (n, l, b) ≡ take_answer (length place) s) (put : after ≡ place_after s place) where
  rules_passed : Passed (take_rules (length place) s)
  rules_passed = (passed (take_rules (length place) s) _ _ told).0

  pub not_out : s.out ≡ false
  not_out = rules_passed.1.0

  length_is : n ≡ length (oldest_of s.held)
  length_is = ap (λ t. t.0) (sym (passed (take_rules (length place) s) _ _ told).1)

  holds : after ≡ oldest_of s.held ++ drop (length (oldest_of s.held)) place
  holds = put ∙ changed (take_rules (length place) s) place (copied (oldest_of s.held) place) rules_passed

  pub fits : n ≤ length after
  fits = omega (arith, length_is, ap length holds, length-append (oldest_of s.held) (drop (length (oldest_of s.held)) place))

  message : take (n - 0) after ≡ oldest_of s.held
  message = ap (take (n - 0)) holds ∙ take_at (oldest_of s.held) (drop (length (oldest_of s.held)) place) (n - 0) (omega (arith, length_is))

  pub taken_line : (l' b' : ℕ) → l' ≡ l → b' ≡ b → take_line (gave (length (take (n - 0) after), l', b')) (take (n - 0) after) ≡ take_line (take_answer (length place) s) (oldest_of s.held)
  taken_line l' b' e f =
      let long : length (take (n - 0) after) ≡ n = ap length message ∙ sym length_is in
      (λ i. take_line (gave (long i, e i, f i)) (message i)) ∙ ap (λ a. take_line a (oldest_of s.held)) told
