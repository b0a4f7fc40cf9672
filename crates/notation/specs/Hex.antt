-- Bytes in hexadecimal. Assumes nothing.
use Rattle.std.specs.Prelude.{ℕ, ◌+◌, ◌-◌, ◌*◌, ◌/◌, ◌%◌, Bool, cond, not, ◌&&◌, List, [], ◌∷◌, length, is_some, Some, None, fold, Option, ◌==◌, nat_le, nat_lt}
use Rattle.std.specs.Option.{unwrap_or}
use Rattle.std.specs.Str.{bytes_eq}
use Rattle.std.specs.List.{flat_map, list_all}

abbrev pub between : ℕ → ℕ → ℕ → Bool
between low high c = nat_le low c && nat_le c high

-- the value of a digit: 0 to 9, A to F, a to f
abbrev pub digit : ℕ → Option ℕ
digit c =
    cond (between 0x30 0x39 c) (Some (c - 0x30))
    (cond (between 0x41 0x46 c) (Some (c - 0x41 + 10))
    (cond (between 0x61 0x66 c) (Some (c - 0x61 + 10))
    None))

abbrev pub is_digit : ℕ → Bool
is_digit c = is_some (digit c)

-- one or more pairs of digits
abbrev pub are_pairs : List ℕ → Bool
are_pairs word = list_all is_digit word && (not (length word == 0) && length word % 2 == 0)

abbrev pub byte : ℕ → ℕ → ℕ
byte high low = unwrap_or (digit high) 0 * 16 + unwrap_or (digit low) 0

-- the bytes that pairs of digits stand for
abbrev pub decoded : List ℕ → List ℕ
decoded [] = []
decoded (c ∷ []) = []
decoded (high ∷ low ∷ rest) = byte high low ∷ decoded rest

-- the bytes that a word stands for: `-` is none
abbrev pub unhex : List ℕ → Option (List ℕ)
unhex word = cond (bytes_eq word (0x2d ∷ [])) (Some []) (cond (are_pairs word) (Some (decoded word)) None)

-- the number that digits write
abbrev pub value : List ℕ → ℕ
value word = fold (λ n c. n * 16 + unwrap_or (digit c) 0) 0 word

-- a pattern of 32 bits: one to eight digits
abbrev pub pattern : List ℕ → Option ℕ
pattern word = cond (list_all is_digit word && (not (length word == 0) && nat_le (length word) 8)) (Some (value word)) None

-- the upper-case digit of a value below 16
abbrev pub figure : ℕ → ℕ
figure n = cond (nat_lt n 10) (0x30 + n) (0x41 + (n - 10))

abbrev pub pair : ℕ → List ℕ
pair b = figure (b / 16) ∷ figure (b % 16) ∷ []

abbrev pub pairs : List ℕ → List ℕ
pairs bs = flat_map pair bs

-- what is printed for bytes: `-` for none
abbrev pub hex : List ℕ → List ℕ
hex [] = 0x2d ∷ []
hex (b ∷ bs) = pairs (b ∷ bs)
