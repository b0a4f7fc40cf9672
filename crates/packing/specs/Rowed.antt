-- Bursts in a row of bytes, each after its length in two bytes, the high one first. Assumes nothing.
use Rattle.std.specs.Prelude.{◌≡◌, ℕ, zero, suc, ◌+◌, ◌*◌, ◌/◌, ◌%◌, ◌<◌, ◌≤◌, Bool, cond, ◌&&◌, List, [], ◌∷◌, ◌++◌, length, take, drop, nat_le, nat_lt}

-- a burst after its length
abbrev pub framed : List ℕ → List ℕ
framed b = length b / 256 ∷ (length b % 256 ∷ b)

-- the row of bytes that bursts make
abbrev pub packed : List (List ℕ) → List ℕ
packed [] = []
packed (b ∷ bs) = framed b ++ packed bs

-- a burst of k bytes can be read from a row of n bytes
abbrev pub readable : ℕ → ℕ → Bool
readable k n = nat_lt 0 k && (nat_le k 104 && nat_le k n)

-- the bursts that a row of bytes begins with, at most n of them
abbrev pub unpacked_at : ℕ → List ℕ → List (List ℕ)
unpacked_at zero xs = []
unpacked_at (suc n) [] = []
unpacked_at (suc n) (h ∷ []) = []
unpacked_at (suc n) (h ∷ (l ∷ xs)) =
    cond (readable (h * 256 + l) (length xs)) (take (h * 256 + l) xs ∷ unpacked_at n (drop (h * 256 + l) xs)) []

abbrev pub unpacked : List ℕ → List (List ℕ)
unpacked xs = unpacked_at (length xs) xs

-- a row that is bursts and nothing else
abbrev pub Packs : List ℕ → Type 0
Packs xs = packed (unpacked xs) ≡ xs

-- the burst of n bytes whose length stands at byte `at`
abbrev pub lying : List ℕ → ℕ → ℕ → List ℕ
lying xs at n = take n (drop (at + 2) xs)

-- a burst of n bytes lies there, and behind it bursts and nothing else
pub record Lies (xs : List ℕ) (at n : ℕ) : Type 0 where
  pub some : 0 < n
  pub few : n ≤ 104
  pub there : at + (2 + n) ≤ length xs
  pub packs : Packs (drop (at + (2 + n)) xs)
  pub reads : unpacked (drop at xs) ≡ lying xs at n ∷ unpacked (drop (at + (2 + n)) xs)
