-- Lists of bursts, each a list of bytes. Assumes nothing.
use Rattle.std.specs.Prelude.{◌≡◌, ℕ, ◌<◌, ◌≤◌, Bool, ◌&&◌, ◌≢◌, List, [], length, nat_le, nat_lt, slice_index, slice_index_or, slice_set}
use Rattle.std.specs.List.{list_any}

-- a medium carries bursts of 1 to 104 bytes
abbrev pub Carried : List ℕ → Type 0
Carried b = (0 < length b) × (length b ≤ 104)

-- the same as a test
abbrev pub carried : List ℕ → Bool
carried b = nat_lt 0 (length b) && nat_le (length b) 104

-- b' is b with just one byte altered
pub record Altered (b b' : List ℕ) : Type 0 where
  pub place : ℕ
  pub byte : ℕ
  pub inside : place < length b
  pub small : byte < 256
  pub differs : byte ≢ slice_index b place
  pub is : b' ≡ slice_set b place byte

-- the first burst, or no bytes where there is none
abbrev pub first : List (List ℕ) → List ℕ
first bs = slice_index_or bs 0 []

-- whether some burst's second byte is such a letter; 0, which stands for the second byte that a burst of one byte lacks, is none
abbrev pub some_letter : (ℕ → Bool) → List (List ℕ) → Bool
some_letter f bs = list_any (λ b. f (slice_index b 1)) bs
