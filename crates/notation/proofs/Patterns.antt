-- Hexadecimal digits, read one after another into 32 bits. Assumes nothing.
use Rattle.std.proofs.Common.{◌≡◌, ℕ, ◌+◌, ◌*◌, ◌^◌, ◌<◌, ◌≤◌, true, false, eqb, List, length, get_or, take, is_some, Some, None, unwrap_or, refl, ap, arith}
use Rattle.std.specs.List.{list_all}
use Rattle.std.proofs.Math.Nat.{pow-le-pow_right}
use Rattle.std.proofs.lemmas.Nat.{pow-add}
use Rattle.std.proofs.lemmas.Bool.Decides.{nat_tests}
use Rattle.std.proofs.lemmas.List.Folds.{list_all_at}
use Rattle.std.proofs.lemmas.List.Sums.{fold_more}
use Rattle.notation.specs.Hex.{digit, is_digit, value, pattern}

-- what fewer than eight digits write leaves room for one more
pub room_for_digit : (i n : ℕ) → i < 8 → n < 16 ^ i → n < 268435456
room_for_digit i n h s = let top : 16 ^ i ≤ 16 ^ 7 = pow-le-pow_right {n = 16} (omega arith) {i = i} {j = 7} (omega arith) in omega arith

pub power_more : (i n d : ℕ) → n < 16 ^ i → d < 16 → n * 16 + d < 16 ^ (i + 1)
power_more i n d h s = let p = pow-add 16 i 1 in omega arith

module _ (word : List ℕ) where
  pub value_more : (i n d : ℕ) → i < length word → digit (get_or word i 0) ≡ Some d → n ≡ value (take i word) → n * 16 + d ≡ value (take (i + 1) word)
  value_more i n d h s e =
      let step = fold_more (λ (n c : ℕ). n * 16 + unwrap_or (digit c) 0) 0 word i 0 h in
      let one : unwrap_or (digit (get_or word i 0)) 0 ≡ d = ap (λ o. unwrap_or o 0) s in
      omega arith

  pub no_digit : (i : ℕ) → i < length word → digit (get_or word i 0) ≡ None → None ≡ pattern word
  no_digit i h t = rw (list_all_at is_digit word i 0 h (ap is_some t)) refl

  pub is_pattern : (n : ℕ) → list_all is_digit word ≡ true → eqb (length word) 0 ≡ false → length word ≤ 8 → n ≡ value word → Some n ≡ pattern word
  is_pattern n digits some short e = rw (digits, e) (grind (arith, nat_tests))
