-- A sum and an exclusive or tell a change in one place. Assumes nothing.
use Rattle.std.specs.Prelude.{◌≡◌, ℕ, zero, suc, ◌+◌, ◌%◌, ◌<◌, List, [], ◌∷◌, length, fold, ◌≢◌, bit_xor, slice_index, slice_index_or, slice_set}
use Rattle.std.proofs.Common.{sym, ap, ◌∙◌, subst, arith, le_of_suc-le-suc, not-suc-le-zero, length-set, get_or-set_same}
use Rattle.std.specs.Int.Bits.{xor_self, xor_assoc, xor_zero_r}
use Rattle.std.proofs.lemmas.Nat.{xor_comm, xor_lt}
use Rattle.std.proofs.lemmas.List.Sums.{sum_by-set}
use Rattle.packet.specs.Ranges.{head_same}
use Rattle.packet.specs.Checks.{Each, Altered, sum_of, xor_of, sum_check, xor_check}

-- two bytes below 128 that are equal modulo 128 at the place of a change contradict it
no_change : (xs ys : List ℕ) (i v : ℕ) → i < length xs → ys ≡ slice_set xs i v → (slice_index xs i ≢ v) → Each 0 0x7f xs → Each 0 0x7f ys → slice_index xs i % 128 ≢ v % 128
no_change xs ys i v within is differs low low' same =
    let here : slice_index_or ys i 0 ≡ v = ap (λ (zs : List ℕ). slice_index zs i) is ∙ get_or-set_same xs i v 0 within in
    let long : length ys ≡ length xs = ap length is ∙ length-set xs i v in
    let small = low i within in
    let small' = low' i (omega arith) in
    differs (omega arith)

pub sum_tells : (xs ys : List ℕ) → Each 0 0x7f xs → Each 0 0x7f ys → Altered xs ys → sum_check xs ≢ sum_check ys
sum_tells xs ys low low' (i, v, within, is, differs) same =
    let moved = sum_by-set (λ x. x % 128) xs i v 0 within in
    let moved' = subst (λ (zs : List ℕ). sum_of zs + slice_index xs i % 128 ≡ sum_of xs + v % 128) (sym is) moved in
    no_change xs ys i v within is differs low low' (omega (arith, head_same same))

xor_back : (a x : ℕ) → bit_xor (bit_xor a x) x ≡ a
xor_back a x = xor_assoc a x x ∙ ap (bit_xor a) (xor_self x) ∙ xor_zero_r a

xor_cancel : (a b x : ℕ) → bit_xor a x ≡ bit_xor b x → a ≡ b
xor_cancel a b x e = sym (xor_back a x) ∙ ap (λ n. bit_xor n x) e ∙ xor_back b x

abbrev mixed : ℕ → ℕ → ℕ
mixed a x = bit_xor a (x % 128)

fold_cancel : (xs : List ℕ) (a b : ℕ) → fold mixed a xs ≡ fold mixed b xs → a ≡ b
fold_cancel [] a b e = e
fold_cancel (x ∷ xs) a b e = xor_cancel a b (x % 128) (fold_cancel xs (mixed a x) (mixed b x) e)

fold_set : (xs : List ℕ) (i v a : ℕ) → i < length xs → fold mixed a xs ≡ fold mixed a (slice_set xs i v) → slice_index xs i % 128 ≡ v % 128
fold_set [] i v a h e = absurd (not-suc-le-zero h)
fold_set (x ∷ xs) zero v a h e =
    let flipped = fold_cancel xs (mixed a x) (mixed a v) e in
    xor_cancel (x % 128) (v % 128) a (xor_comm (x % 128) a ∙ flipped ∙ xor_comm a (v % 128))
fold_set (x ∷ xs) (suc i) v a h e = fold_set xs i v (mixed a x) (le_of_suc-le-suc h) e

pub xor_tells : (xs ys : List ℕ) → Each 0 0x7f xs → Each 0 0x7f ys → Altered xs ys → xor_check xs ≢ xor_check ys
xor_tells xs ys low low' (i, v, within, is, differs) same =
    let same' : xor_of xs ≡ xor_of ys = omega (arith, head_same same) in
    no_change xs ys i v within is differs low low' (fold_set xs i v 0 within (same' ∙ ap xor_of is))

xor_small : (xs : List ℕ) (a : ℕ) → a < 128 → fold mixed a xs < 128
xor_small [] a h = h
xor_small (x ∷ xs) a h = xor_small xs (mixed a x) (xor_lt 7 a (x % 128) h (omega arith))

pub xor_of_small : (xs : List ℕ) → xor_of xs < 128
xor_of_small xs = xor_small xs 0 (omega arith)

pub xor_marked : (xs : List ℕ) → Each 0x80 0xff (xor_check xs)
xor_marked xs zero h = let s = xor_of_small xs in (omega arith, omega arith)
xor_marked xs (suc k) h = absurd (not-suc-le-zero (le_of_suc-le-suc h))
