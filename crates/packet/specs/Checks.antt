-- What a check kind means, and the two kinds of this crate. Assumes nothing.
use Rattle.std.specs.Prelude.{◌≡◌, ℕ, ◌+◌, ◌-◌, ◌%◌, ◌<◌, ◌≤◌, List, [], ◌∷◌, ◌++◌, length, replicate, fold, ◌≢◌, bit_xor, slice_index, slice_set}

-- each byte of xs lies from low to high, both included
abbrev pub Each : ℕ → ℕ → List ℕ → Type 0
Each low high xs = (k : ℕ) → k < length xs → (low ≤ slice_index xs k) × (slice_index xs k ≤ high)

-- ys is xs with another byte in just one place
abbrev pub Altered : List ℕ → List ℕ → Type 0
Altered xs ys = (i : ℕ) × (v : ℕ) × (i < length xs) × (ys ≡ slice_set xs i v) × (slice_index xs i ≢ v)

-- the five bytes that a kind with c check bytes answers: they come first, then zeros
abbrev pub padded : ℕ → List ℕ → List ℕ
padded c xs = xs ++ replicate (5 - c) 0

-- the sum of the bytes, each modulo 128
abbrev pub sum_of : List ℕ → ℕ
sum_of xs = fold (λ a x. a + x % 128) 0 xs

-- the exclusive or of the bytes, each modulo 128
abbrev pub xor_of : List ℕ → ℕ
xor_of xs = fold (λ a x. bit_xor a (x % 128)) 0 xs

abbrev pub sum_check : List ℕ → List ℕ
sum_check xs = (0x80 + sum_of xs % 128) ∷ []

abbrev pub xor_check : List ℕ → List ℕ
xor_check xs = (0x80 + xor_of xs) ∷ []
