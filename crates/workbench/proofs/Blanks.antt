-- A line of spaces, or a comment, asks for the same as its first byte, whatever follows. Assumes nothing.
use Rattle.std.proofs.Common.{◌≡◌, ◌≢◌, ℕ, ◌+◌, ◌<◌, Bool, true, false, cond, not, ◌||◌, eqb, List, [], ◌∷◌, ◌++◌, All, length, take, drop, Some, None, Ok, Err, Option, Result, is_some, option_map, refl, sym, ap, subst, ◌∙◌, arith, one-add, ne_eqb, ⊎_elim, true≢false}
use Rattle.std.proofs.lemmas.Bool.{cond-true, cond-false, cases_eq}
use Rattle.std.proofs.lemmas.List.Elements.{All-head, All-tail, All-cons, All-nil}
use Rattle.std.specs.List.{prefix_len}
use Rattle.notation.specs.Words.{is_space, is_other, before, after, without_end, trimmed}
use Rattle.script.specs.Commands.{Request, call_after, command_of}
use Rattle.script_words.specs.Arguments.{◌then◌, is_empty, is_blank, asking}
use Rattle.script_words.specs.Told.{asked}
use Rattle.script_words.specs.declared.fault.Fault.{Fault}
use Rattle.script_words.specs.declared.fault.Fault.TheVariants.{TooFewWords}
use Rattle.workbench.specs.Lines.{request_of}

-- no byte of xs ends a line
abbrev pub Endless : List ℕ → Type 0
Endless xs = All (λ b. b ≢ 10) xs

-- an end that follows stands in no front without one
pub without_end-front : (xs tail : List ℕ) → Endless xs → without_end (xs ++ tail) ≡ xs ++ without_end tail
without_end-front [] tail h = refl
without_end-front (x ∷ xs) tail h =
    let rest = xs ++ tail in
    let n = prefix_len (is_other 10) rest in
    ap (λ b. take (cond (not b) (1 + n) 0) (x ∷ rest)) (ne_eqb x 10 (All-head (λ b. b ≢ 10) x xs h))
    ∙ ap (λ m. take m (x ∷ rest)) (one-add n)
    ∙ ap (λ l. x ∷ l) (without_end-front xs tail (All-tail (λ b. b ≢ 10) x xs h))

or-true : (b : Bool) → (b || true) ≡ true
or-true true = refl
or-true false = refl

left_true : (a b : Bool) → b ≡ false → (a || b) ≡ true → a ≡ true
left_true true b e h = refl
left_true false b e h = absurd (true≢false (sym h ∙ e))

-- a line that begins with `#`
comment : (xs : List ℕ) → command_of (0x23 ∷ xs) ≡ Ok None
comment xs = cond-true _ _ _ (or-true (is_empty (trimmed (0x23 ∷ xs))))

trimmed-space : (xs : List ℕ) → trimmed (0x20 ∷ xs) ≡ trimmed xs
trimmed-space xs = ap (λ n. drop n (0x20 ∷ xs)) (one-add (prefix_len is_space xs))

-- what begins with another byte than the space is left as it is
not_spaces : (x : ℕ) (xs : List ℕ) → x ≢ 0x20 → is_empty (trimmed (x ∷ xs)) ≡ true → ⊥
not_spaces x xs ne h =
    let whole : trimmed (x ∷ xs) ≡ x ∷ xs = ap (λ n. drop n (x ∷ xs)) (cond-false _ (1 + prefix_len is_space xs) 0 (ne_eqb x 0x20 ne)) in
    true≢false (sym h ∙ ap is_empty whole ∙ ne_eqb (length (x ∷ xs)) 0 (λ e. omega arith))

trimmed-spaces : (xs tail : List ℕ) → is_empty (trimmed xs) ≡ true → trimmed (xs ++ tail) ≡ trimmed tail
trimmed-spaces [] tail h = refl
trimmed-spaces (x ∷ xs) tail h = ⊎_elim
    (λ e. subst (λ y. is_empty (trimmed (y ∷ xs)) ≡ true → trimmed (y ∷ (xs ++ tail)) ≡ trimmed tail) (sym e)
    (λ k. trimmed-space (xs ++ tail) ∙ trimmed-spaces xs tail (sym (ap is_empty (trimmed-space xs)) ∙ k)) h)
    (λ ne. absurd (not_spaces x xs ne h))
    (cases_eq x 0x20)

-- what a line that begins with a space asks for, by what stands after its spaces
abbrev after_spaces : List ℕ → Result (Option Request) Fault
after_spaces xs = cond (is_empty xs || false) (Ok None)
    (cond (is_empty (before 0x20 xs)) (Err TooFewWords) (Ok (before 0x20 xs, after 0x20 xs)) then λ subject rest. asked Some (call_after subject rest))

first_byte : (x : ℕ) (xs tail : List ℕ) → is_blank (x ∷ xs) ≡ true → command_of (x ∷ (xs ++ tail)) ≡ command_of (x ∷ tail)
first_byte x xs tail h = ⊎_elim
    (λ e. subst (λ y. command_of (y ∷ (xs ++ tail)) ≡ command_of (y ∷ tail)) (sym e) (comment (xs ++ tail) ∙ sym (comment tail)))
    (λ ne.
    let spaces = left_true (is_empty (trimmed (x ∷ xs))) (eqb x 0x23) (ne_eqb x 0x23 ne) h in
    ⊎_elim
    (λ e. subst (λ y. is_empty (trimmed (y ∷ xs)) ≡ true → command_of (y ∷ (xs ++ tail)) ≡ command_of (y ∷ tail)) (sym e)
    (λ k. ap after_spaces (trimmed-space (xs ++ tail) ∙ trimmed-spaces xs tail (sym (ap is_empty (trimmed-space xs)) ∙ k) ∙ sym (trimmed-space tail))) spaces)
    (λ other. absurd (not_spaces x xs other spaces))
    (cases_eq x 0x20))
    (cases_eq x 0x23)

pub blank-front : (xs tail : List ℕ) → Endless xs → is_blank xs ≡ true → 0 < length xs → request_of (xs ++ tail) ≡ request_of (take 1 xs ++ tail)
blank-front [] tail all blank some = absurd (omega arith)
blank-front (x ∷ xs) tail all blank some =
    let one = All-cons (λ b. b ≢ 10) x [] (All-head (λ b. b ≢ 10) x xs all) (All-nil (λ b. b ≢ 10)) in
    ap command_of (without_end-front (x ∷ xs) tail all) ∙ first_byte x xs (without_end tail) blank
    ∙ sym (ap command_of (without_end-front (x ∷ []) tail one))

-- a line in which no arguments were found
pub blank-of_none : {A : Type 0} (f : A → List ℕ) (o : Option A) (line : List ℕ) → option_map f o ≡ asking line → is_some o ≡ false → is_blank line ≡ true
blank-of_none f None line e h = at (is_blank line) e
  where
    at : (b : Bool) → None ≡ cond b None (Some line) → b ≡ true
    at true e = refl
    at false e = absurd (true≢false (sym (ap is_some e)))
blank-of_none f (Some x) line e h = absurd (true≢false h)
