-- Decimal digits, read one after another. Assumes nothing.
use Rattle.std.proofs.Common.{◌≡◌, ℕ, ◌+◌, ◌-◌, ◌*◌, ◌<◌, min, Bool, true, not, eqb, List, length, get_or, take, Option, None, false, refl, arith}
use Rattle.std.specs.Bool.{then_some}
use Rattle.std.specs.Char.{is_ascii_digit}
use Rattle.std.specs.List.{list_all}
use Rattle.std.specs.Option.{option_map}
use Rattle.std.proofs.lemmas.Bool.Decides.{nat_tests}
use Rattle.std.proofs.lemmas.List.Folds.{list_all_at}
use Rattle.std.proofs.lemmas.List.Sums.{fold_more}
use Rattle.notation.specs.Numbers.{number, decimal}

-- the largest number of 64 bits
abbrev pub top : ℕ
top = 18446744073709551615

abbrev pub told : List ℕ → Option ℕ
told word = option_map (λ n. min n top) (decimal word)

module _ (word : List ℕ) where
  -- one more digit, held at most at the top
  pub number_more : (i n : ℕ) → i < length word → n ≡ min (number (take i word)) top → min (min (n * 10) top + (get_or word i 0 - 0x30)) top ≡ min (number (take (i + 1) word)) top
  number_more i n h e =
      let step = fold_more (λ (n c : ℕ). n * 10 + (c - 0x30)) 0 word i 0 h in
      omega arith

  pub no_digit : (i : ℕ) → i < length word → is_ascii_digit (get_or word i 0) ≡ false → None ≡ told word
  no_digit i h t = rw (list_all_at is_ascii_digit word i 0 h t) refl

  -- what is told of a word of digits
  pub digits_tell : (n : ℕ) (some : Bool) → list_all is_ascii_digit word ≡ true → n ≡ min (number word) top → some ≡ not (eqb (length word) 0) → then_some some n ≡ told word
  digits_tell n some digits e t = rw (digits, t, e) (grind (arith, nat_tests))
