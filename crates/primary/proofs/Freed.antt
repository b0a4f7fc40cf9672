-- The record at the head is written anew, and the table is then read from the next place on. Assumes nothing.
use Rattle.std.proofs.Common.{◌≡◌, ℕ, ◌+◌, ◌-◌, ◌%◌, ◌<◌, ◌≤◌, List, length, drop, set, sym, ap, ◌∙◌, arith}
use Rattle.buffer.specs.Turns.{turns}
use Rattle.buffer.proofs.Turns.{before_kept, later_kept, first_of}

module _ {R X : Type 0} (f : R → X) (blank : R) (rs : List R) (head : ℕ) (low : head < 8) (long : length rs ≡ 8) (r : R) where
  -- the place at the head comes last then
  others_kept : (k n : ℕ) → k + n ≤ 7 → turns f blank (set rs head r) ((head + 1) % 8) k n ≡ turns f blank rs ((head + 1) % 8) k n
  others_kept k n le =
      let last : ((head + 1) % 8 + 7) % 8 ≡ head = omega arith in
      ap (λ (j : ℕ). turns f blank (set rs j r) ((head + 1) % 8) k n) (sym last)
      ∙ before_kept f blank rs ((head + 1) % 8) (omega arith) long 7 r k n le (omega arith)

  pub later_stay : (u v : ℕ) → 0 < u → u ≤ v → v ≤ 8 → turns f blank (set rs head r) ((head + 1) % 8) (u - 1) (v - 1 - (u - 1)) ≡ turns f blank rs head u (v - u)
  later_stay u v some le room =
      others_kept (u - 1) (v - 1 - (u - 1)) (omega arith) ∙ later_kept f blank rs head low long u v some le

  pub first_goes : (n : ℕ) → 0 < n → n ≤ 8 → turns f blank (set rs head r) ((head + 1) % 8) 0 (n - 1) ≡ drop 1 (turns f blank rs head 0 n)
  first_goes n some room =
      others_kept 0 (n - 1) (omega arith) ∙ sym (ap (drop 1) (first_of f blank rs head low long n some))
