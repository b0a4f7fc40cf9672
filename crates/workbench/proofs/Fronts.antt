-- A line of which a front was read, and what is kept of that front. Assumes nothing.
use Rattle.std.proofs.Common.{◌≡◌, ◌≢◌, ◌⊎◌, ℕ, zero, suc, ◌+◌, ◌-◌, ◌<◌, min, Bool, true, false, cond, not, ◌||◌, eqb, List, [], ◌∷◌, ◌++◌, length, take, slice_index, Some, None, Ok, Err, Option, IfSome, refl, sym, ap, ap₂, subst, ◌∙◌, arith, append_assoc, length-append, length-take, eq-eqb, ne_eqb, inl, inr, ⊎_elim, true≢false, take_all, eq-zero-or-pos}
use Rattle.std.proofs.BufReadLemmas.{take_through-append, drop_through-append, take_through_nonempty, through_part}
use Rattle.std.proofs.KnownBytes.{starts_with_rest}
use Rattle.std.proofs.lemmas.Bool.{cases_eq}
use Rattle.std.proofs.lemmas.List.Elements.{All-head, All-tail, All-cons, All-nil, All-append, All-more}
use Rattle.std.specs.Io.{StartsWith, StopsAt, IsEmptyOrEndsWith, appended_bytes}
use Rattle.std.specs.Io.BufRead.{take_through, drop_through}
use Rattle.std.specs.Io.KnownBytes.{Consumes}
use Rattle.std.specs.Bool.{then_some}
use Rattle.std.specs.List.{list_any}
use Rattle.script_words.specs.Arguments.{is_blank}
use Rattle.workbench.specs.declared.lines.TooLong.{TooLong}
use Rattle.workbench.specs.Lines.{joined, lines, request_of, Taken}
use Rattle.workbench.proofs.Blanks.{Endless, blank-front}

-- the first line ends at the first end
lines-first : (x : ℕ) (xs : List ℕ) → lines (x ∷ xs) ≡ take_through 10 (x ∷ xs) ∷ lines (drop_through 10 (x ∷ xs))
lines-first x [] = at (eqb x 10)
  where
    at : (b : Bool) → cond b ((x ∷ []) ∷ []) ((x ∷ []) ∷ []) ≡ cond b (x ∷ []) (x ∷ []) ∷ lines (cond b [] [])
    at true = refl
    at false = refl
lines-first x (y ∷ ys) = at (lines-first y ys) (eqb x 10)
  where
    at : lines (y ∷ ys) ≡ take_through 10 (y ∷ ys) ∷ lines (drop_through 10 (y ∷ ys)) → (b : Bool) → cond b ((x ∷ []) ∷ lines (y ∷ ys)) (joined x (lines (y ∷ ys)))
        ≡ cond b (x ∷ []) (x ∷ take_through 10 (y ∷ ys)) ∷ lines (cond b (y ∷ ys) (drop_through 10 (y ∷ ys)))
    at h true = refl
    at h false = ap (joined x) h

lines-next : (xs : List ℕ) → 0 < length xs → lines xs ≡ take_through 10 xs ∷ lines (drop_through 10 xs)
lines-next [] some = absurd (omega arith)
lines-next (x ∷ xs) some = lines-first x xs

-- A front of the script was read, without an end. The line that is kept asks for the same as the front, whatever follows.
abbrev pub Kept : List ℕ → List ℕ → List ℕ → Type 0
Kept script line rest = (front : List ℕ) × (script ≡ front ++ rest) × Endless front × (min 1 (length front) ≡ min 1 (length line))
    × ((tail : List ℕ) → request_of (front ++ tail) ≡ request_of (line ++ tail))

-- nothing was read yet
pub kept-nothing : (known : Option (List ℕ)) (line : List ℕ) → line ≡ [] → IfSome known (λ script. (rest : List ℕ) × (known ≡ Some rest) × Kept script line rest)
kept-nothing None line e = tt
kept-nothing (Some script) line e =
    (script, refl, ([], refl, All-nil (λ b. b ≢ 10), ap (λ l. min 1 (length l)) (sym e), λ tail. ap (λ l. request_of (l ++ tail)) (sym e)))

-- what holds of known bytes
pub at_known : (known : Option (List ℕ)) (P : List ℕ → Type 0) (xs : List ℕ) → known ≡ Some xs → IfSome known P → P xs
at_known known P xs e = subst (λ o. IfSome o P) e

-- of a blank line its first byte
pub kept-blank : (script line rest : List ℕ) → Kept script line rest → Endless line → is_blank line ≡ true → 0 < length line → Kept script (take 1 line) rest
kept-blank script line rest k all blank some =
    let (front, whole, endless, begun, same) = k in
    (front, whole, endless, omega (arith, length-take 1 line), λ tail. same tail ∙ blank-front line tail all blank some)

-- more was read
pub kept-more : (script line new rest : List ℕ) (left : Option (List ℕ)) → Kept script line rest → StartsWith new line → Endless new → Consumes (Some rest) left (appended_bytes line new)
    → (later : List ℕ) × (left ≡ Some later) × Kept script new later
kept-more script line new rest None k starts all read = absurd read
kept-more script line new rest (Some later) k starts all read =
    let (front, whole, endless, begun, same) = k in
    let part = appended_bytes line new in
    let grown : new ≡ line ++ part = starts_with_rest new line starts in
    let part_endless : Endless part = endless_part line part (subst Endless grown all) in (
      later,
      refl,
      (
        front ++ part,
        whole ∙ ap (λ l. front ++ l) read ∙ sym (append_assoc front part later),
        All-append (λ b. b ≢ 10) front part endless part_endless,
        omega (arith, length-append front part, ap length grown, length-append line part),
        λ tail. ap request_of (append_assoc front part tail) ∙ same (part ++ tail)
            ∙ ap request_of (sym (append_assoc line part tail) ∙ ap (λ l. l ++ tail) (sym grown)),
      ),
    )
  where
    endless_part : (xs ys : List ℕ) → Endless (xs ++ ys) → Endless ys
    endless_part [] ys h = h
    endless_part (x ∷ xs) ys h = endless_part xs ys (All-tail (λ b. b ≢ 10) x (xs ++ ys) h)

-- the script's next line, of which some is kept or left
next-line : (script line rest : List ℕ) (k : Kept script line rest) → 0 < length line + length rest
    → lines script ≡ (k.0 ++ take_through 10 rest) ∷ lines (drop_through 10 rest)
next-line script line rest k some =
    let (front, whole, endless, begun, same) = k in
    lines-next script (omega (arith, ap length whole, length-append front rest))
    ∙ ap₂ (λ a b. a ∷ lines b) (ap (take_through 10) whole ∙ take_through-append 10 front rest endless) (ap (drop_through 10) whole ∙ drop_through-append 10 front rest endless)

-- the line was read to its end
pub taken-whole : (script line rest new : List ℕ) (left : Option (List ℕ)) → Kept script line rest → new ≡ line ++ take_through 10 rest → left ≡ Some (drop_through 10 rest)
    → 0 < length new → Taken script (Some (Ok tt)) new left
taken-whole script line rest new left k read after some =
    let through = take_through 10 rest in
    let begun : 0 < length line + length rest = ⊎_elim
    (λ e. omega (arith, ap length read, length-append line through))
    (λ more. let there = take_through_nonempty 10 rest more in omega arith)
    (eq-zero-or-pos (length through)) in
    (k.0 ++ through, drop_through 10 rest, next-line script line rest k begun, after, ap request_of read ∙ sym (k.4 through))

-- the rest of the line was passed over
taken-passed : (e : TooLong) (script line rest new : List ℕ) (left : Option (List ℕ)) → Kept script line rest → left ≡ Some (drop_through 10 rest)
    → 0 < length line + length rest → Taken script (Some (Err e)) new left
taken-passed e script line rest new left k after some = (k.0 ++ take_through 10 rest, drop_through 10 rest, next-line script line rest k some, after, tt)

-- no line was there
taken-none : (script line rest new : List ℕ) (left : Option (List ℕ)) → Kept script line rest → left ≡ Some (drop_through 10 rest)
    → length line ≡ 0 → rest ≡ [] → Taken script None new left
taken-none script line rest new left k after empty end =
    let (front, whole, endless, begun, same) = k in
    let none : front ≡ [] = no_bytes front (omega arith) in
    (whole ∙ ap₂ (λ a b. a ++ b) none end, after ∙ ap (λ l. Some (drop_through 10 l)) end)
  where
    no_bytes : (xs : List ℕ) → length xs ≡ 0 → xs ≡ []
    no_bytes [] e = refl
    no_bytes (x ∷ xs) e = absurd (omega arith)

-- the rest was passed over, whether there was a line or not
pub taken-if_there : (e : TooLong) (is_there : Bool) (script line rest new : List ℕ) (left : Option (List ℕ)) → Kept script line rest → left ≡ Some (drop_through 10 rest)
    → (is_there ≡ true → 0 < length line + length rest) → (is_there ≡ false → (length line ≡ 0) × (rest ≡ [])) → Taken script (then_some is_there (Err e)) new left
taken-if_there e true script line rest new left k after some none = taken-passed e script line rest new left k after (some refl)
taken-if_there e false script line rest new left k after some none = taken-none script line rest new left k after (none refl).0 (none refl).1

-- what is not empty has a byte
pub some-of_filled : (empty : Bool) (n : ℕ) → empty ≡ eqb n 0 → not empty ≡ true → 0 < n
some-of_filled empty zero e h = absurd (true≢false (sym (sym (ap not e) ∙ h)))
some-of_filled empty (suc n) e h = omega arith

-- no end was found
pub endless-of_search : (xs : List ℕ) → list_any (λ b. eqb b 10) xs ≡ false → Endless xs
endless-of_search [] h = All-nil (λ b. b ≢ 10)
endless-of_search (x ∷ xs) h = All-cons (λ b. b ≢ 10) x xs (λ e. true≢false (sym (ap (λ t. t || list_any (λ b. eqb b 10) xs) (eq-eqb x 10 e)) ∙ h)) (endless-of_search xs (right (eqb x 10) _ h))
  where
    right : (a b : Bool) → (a || b) ≡ false → b ≡ false
    right true b h = absurd (true≢false h)
    right false b h = h

search-endless : (xs : List ℕ) → Endless xs → list_any (λ b. eqb b 10) xs ≡ false
search-endless [] h = refl
search-endless (x ∷ xs) h = ap (λ t. t || list_any (λ b. eqb b 10) xs) (ne_eqb x 10 (All-head (λ b. b ≢ 10) x xs h)) ∙ search-endless xs (All-tail (λ b. b ≢ 10) x xs h)

-- a part that ends at most once, at its last byte
endless-or-ended : (xs : List ℕ) → StopsAt xs 10 → Endless xs ⊎ ((0 < length xs) × IsEmptyOrEndsWith xs 10)
endless-or-ended [] stops = inl (All-nil (λ b. b ≢ 10))
endless-or-ended (x ∷ xs) stops =
    let part = x ∷ xs in
    let n = length part - 1 in
    ⊎_elim
    (λ e. inr (omega arith, λ _. e))
    (λ ne. inl (subst Endless (take_all (n + 1) part (omega arith)) (All-more (λ b. b ≢ 10) part n 0 (omega arith) stops ne)))
    (cases_eq (slice_index part n) 10)

-- an end was found in what was read, so it is the line's
pub read-whole : (line new rest : List ℕ) (left : Option (List ℕ)) → Endless line → StartsWith new line → StopsAt (appended_bytes line new) 10 → Consumes (Some rest) left (appended_bytes line new)
    → list_any (λ b. eqb b 10) new ≡ true → (new ≡ line ++ take_through 10 rest) × (left ≡ Some (drop_through 10 rest)) × (0 < length new)
read-whole line new rest None all starts stops read found = absurd read
read-whole line new rest (Some later) all starts stops read found =
    let part = appended_bytes line new in
    let grown : new ≡ line ++ part = starts_with_rest new line starts in
    ⊎_elim
    (λ none. absurd (true≢false (sym found ∙ search-endless new (subst Endless (sym grown) (All-append (λ b. b ≢ 10) line part all none)))))
    (λ ends.
    let through = through_part 10 part later stops ends.1 (λ e. absurd (omega (arith, ends.0))) in (
      grown ∙ ap (λ l. line ++ l) (sym (ap (take_through 10) read ∙ through.0)),
      ap Some (sym (ap (drop_through 10) read ∙ through.1)),
      omega (arith, ends.0, ap length grown, length-append line part),
    ))
    (endless-or-ended part stops)
