-- Pairs of hexadecimal digits, read one after another. Assumes nothing.
use Rattle.std.proofs.Common.{◌≡◌, ℕ, suc, ◌+◌, ◌-◌, ◌/◌, ◌%◌, ◌^◌, ◌<◌, ◌≤◌, true, false, eqb, List, [], ◌∷◌, ◌++◌, length, get_or, take, drop, Some, unwrap_or, sym, refl, ap, ◌∙◌, append_assoc, append-nil, arith}
use Rattle.std.proofs.lemmas.List.{flat_map_more, nil_from_length, take_more, take_rest}
use Rattle.std.proofs.lemmas.Bool.{and_right, ne_eqb}
use Rattle.std.proofs.lemmas.Grind.{flat_map-append}
use Rattle.std.proofs.lemmas.Str.{IsUtf8-from_ascii}
use Rattle.std.proofs.lemmas.Str.Ascii.{IsAscii-nil, IsAscii-cons}
use Rattle.std.proofs.Output.{has_written_append, has_written_of_eq}
use Rattle.std.specs.Str.{bytes_eq, IsAscii, IsUtf8}
use Rattle.std.proofs.lemmas.Bool.Decides.{nat_tests}
use Rattle.std.specs.List.{list_all}
use Rattle.std.proofs.lemmas.Fmt.{hex_byte}
use Rattle.std.specs.Fmt.{padded_integral, format_spec, digits, digit_glyph, HasWritten}
use Rattle.std.specs.declared.fmt.Formatter.{Formatter}
use Rattle.notation.specs.Hex.{pair, digit, is_digit, are_pairs, decoded, byte, figure, pairs, hex, unhex}

two_first : (xs : List ℕ) → 2 ≤ length xs → xs ≡ get_or xs 0 0 ∷ get_or xs 1 0 ∷ drop 2 xs
two_first [] h = absurd (omega arith)
two_first (x ∷ []) h = absurd (omega arith)
two_first (x ∷ y ∷ xs) h = refl

pub four_first : (xs : List ℕ) → 4 ≤ length xs → xs ≡ get_or xs 0 0 ∷ get_or xs 1 0 ∷ get_or xs 2 0 ∷ get_or xs 3 0 ∷ take (length xs - 4) (drop 4 xs)
four_first [] h = absurd (omega arith)
four_first (x ∷ []) h = absurd (omega arith)
four_first (x ∷ y ∷ []) h = absurd (omega arith)
four_first (x ∷ y ∷ z ∷ []) h = absurd (omega arith)
four_first (x ∷ y ∷ z ∷ u ∷ xs) h = rw take_rest refl

-- one more pair is read
pub decoded_more : (front xs all : List ℕ) → 2 ≤ length xs → front ++ decoded xs ≡ all → (front ++ byte (get_or xs 0 0) (get_or xs 1 0) ∷ []) ++ decoded (take (length xs - 2) (drop 2 xs)) ≡ all
decoded_more front xs all h e = rw (take_rest, append_assoc) (ap (λ l. front ++ decoded l) (sym (two_first xs h)) ∙ e)

-- a digit's value fits four bits
pub digit_small : (c : ℕ) → unwrap_or (digit c) 0 < 16
digit_small c = grind (arith, nat_tests)

-- the digit that is printed for a value reads as that value
pub figure_read : (n : ℕ) → n < 16 → digit (figure n) ≡ Some n
figure_read n h = grind (arith, nat_tests)

pub figure_ascii : (n : ℕ) → n < 16 → figure n < 128
figure_ascii n h = grind (arith, nat_tests)

-- one more byte is printed
pub pairs_more : (xs : List ℕ) (i : ℕ) → i < length xs → pairs (take i xs) ++ pair (get_or xs i 0) ≡ pairs (take (i + 1) xs)
pairs_more xs i h = rw (take_more xs i 0 h) (flat_map_more pair [] (take i xs) (get_or xs i 0))

glyph_is : (n : ℕ) → n < 16 → digit_glyph true n ≡ figure n
glyph_is n h = grind (arith, nat_tests)

-- what `{:02X}` writes of a byte
pub pair_shown : (b : ℕ) → b < 256 → padded_integral (format_spec 32 0 4 2 (2 ^ 64 - 1)) false [] (digits 16 true b) ≡ pair b
pair_shown b h =
    let high = glyph_is (b / 16) (omega arith) in
    let low = glyph_is (b % 16) (omega arith) in
    hex_byte true b h ∙ rw (high, low) refl

abbrev pub Bytes : List ℕ → Type 0
Bytes xs = (i : ℕ) → get_or xs i 0 < 256

pairs_ascii : (x : ℕ) (xs : List ℕ) → x < 256 → IsAscii (pairs xs) → IsAscii (pairs (x ∷ xs))
pairs_ascii x xs h rest =
    let high = figure_ascii (x / 16) (omega arith) in
    let low = figure_ascii (x % 16) (omega arith) in
    IsAscii-cons (figure (x / 16)) (figure (x % 16) ∷ pairs xs) high (IsAscii-cons (figure (x % 16)) (pairs xs) low rest)

-- the digits of four bytes are text
pub four_text : (a b c d : ℕ) → a < 256 → b < 256 → c < 256 → d < 256 → IsUtf8 (pairs (a ∷ b ∷ c ∷ d ∷ []))
four_text a b c d p q r s =
    IsUtf8-from_ascii (pairs (a ∷ b ∷ c ∷ d ∷ [])) (pairs_ascii a (b ∷ c ∷ d ∷ []) p (pairs_ascii b (c ∷ d ∷ []) q (pairs_ascii c (d ∷ []) r (pairs_ascii d [] s IsAscii-nil))))

-- of the pairs of `all`, those of `rest` are still to be written
abbrev pub AreLeft : {W : Type 0} → (W → List ℕ → W → Type 0) → Formatter W → List ℕ → List ℕ → Formatter W → Type 0
AreLeft took f all rest g = (done : List ℕ) × HasWritten took f done g × (done ++ pairs rest ≡ pairs all)

-- `text`, the pairs of `front`, is written
pub left_less : {W : Type 0} (took : W → List ℕ → W → Type 0) (f g h : Formatter W) (all rest front after text : List ℕ) → AreLeft took f all rest g → HasWritten took g text h → text ≡ pairs front → rest ≡ front ++ after → AreLeft took f all after h
left_less took f g h all rest front after text left wrote shown parts = (
  left.0 ++ pairs front,
  has_written_append _ _ _ _ _ _ left.1 (has_written_of_eq _ _ _ _ _ shown wrote),
  append_assoc left.0 (pairs front) (pairs after)
      ∙ ap (λ l. left.0 ++ l) (sym (flat_map-append pair front after) ∙ ap pairs (sym parts))
      ∙ left.2,
)

hex_some : (xs : List ℕ) → 0 < length xs → pairs xs ≡ hex xs
hex_some [] h = absurd (omega arith)
hex_some (x ∷ xs) h = refl

-- nothing is left
pub left_none : {W : Type 0} (took : W → List ℕ → W → Type 0) (f g : Formatter W) (all rest : List ℕ) → AreLeft took f all rest g → length rest ≡ 0 → 0 < length all → HasWritten took f (hex all) g
left_none took f g all rest left none some =
    let end : rest ≡ [] = nil_from_length rest (omega arith) in
    has_written_of_eq _ _ _ _ _ (rw (end, append-nil) at left.2 ∙ hex_some all some) left.1

halves : (b : ℕ) → b < 256 → byte (figure (b / 16)) (figure (b % 16)) ≡ b
halves b h =
    let high = figure_read (b / 16) (omega arith) in
    let low = figure_read (b % 16) (omega arith) in
    rw (high, low) (omega arith)

pairs_decoded : (xs : List ℕ) → Bytes xs → decoded (pairs xs) ≡ xs
pairs_decoded [] h = refl
pairs_decoded (x ∷ xs) h = λ i. halves x (h 0) i ∷ pairs_decoded xs (λ k. h (suc k)) i

pairs_digits : (xs : List ℕ) → Bytes xs → list_all is_digit (pairs xs) ≡ true
pairs_digits [] h = refl
pairs_digits (x ∷ xs) h =
    let small : x < 256 = h 0 in
    let high = figure_read (x / 16) (omega arith) in
    let low = figure_read (x % 16) (omega arith) in
    rw (high, low) (pairs_digits xs (λ k. h (suc k)))

pairs_even : (xs : List ℕ) → length (pairs xs) % 2 ≡ 0
pairs_even [] = refl
pairs_even (x ∷ xs) = let e = pairs_even xs in omega arith

no_dash : (x y : ℕ) (xs : List ℕ) → bytes_eq (x ∷ y ∷ xs) (0x2d ∷ []) ≡ false
no_dash x y xs = and_right (eqb x 0x2d) false refl

pairs_fit : (x : ℕ) (xs : List ℕ) → Bytes (x ∷ xs) → are_pairs (pairs (x ∷ xs)) ≡ true
pairs_fit x xs h =
    let some : length (pairs (x ∷ xs)) ≡ 0 → ⊥ = λ e. omega arith in
    rw (pairs_digits (x ∷ xs) h, ne_eqb (length (pairs (x ∷ xs))) 0 some, pairs_even (x ∷ xs))

-- what is printed reads back
pub hex_read : (xs : List ℕ) → Bytes xs → unhex (hex xs) ≡ Some xs
hex_read [] h = refl
hex_read (x ∷ xs) h =
    rw (no_dash (figure (x / 16)) (figure (x % 16)) (pairs xs), pairs_fit x xs h) (ap (λ l. Some l) (pairs_decoded (x ∷ xs) h))
