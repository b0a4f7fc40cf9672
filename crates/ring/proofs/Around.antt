-- Laws of the list that is read around the end of a memory.
use Rattle.std.proofs.Common.{◌≡◌, ℕ, ◌+◌, ◌-◌, ◌<◌, ◌≤◌, min, ◌≢◌, List, [], ◌∷◌, ◌++◌, length, get_or, take, drop, set, sym, ap, ◌∙◌, inl, inr, arith}
use Rattle.std.proofs.lemmas.List.{same_lists, length-take, length-drop, length-append, length-set, get_or-take, get_or-drop, get_or_append_left, get_or-append_right, get_or-set_same, get_or-set_other, length_push, get_or_push, drop_all, take_all}
use Rattle.std.proofs.lemmas.Bool.{cases_lt, cond-true, cond-false, lt-ltb, le-ltb}
use Rattle.std.proofs.lemmas.Bool.Decides.{nat_tests}
use Rattle.ring.specs.Slots.{around, place}

-- a head or a length past the memory means no more than its end
around_head : {X : Type 0} (xs : List X) (h : ℕ) → drop h xs ++ take h xs ≡ drop (min h (length xs)) xs ++ take (min h (length xs)) xs
around_head xs h =
    elim (cases_lt (length xs) h) [
      | inl a ↦
          ap (λ d. d ++ take h xs) (drop_all h xs (omega arith) ∙ sym (drop_all (min h (length xs)) xs (omega arith)))
          ∙ ap (λ t. drop (min h (length xs)) xs ++ t) (take_all h xs (omega arith) ∙ sym (take_all (min h (length xs)) xs (omega arith)))
      | inr b ↦ let e : h ≡ min h (length xs) = omega arith in ap (λ i. drop i xs ++ take i xs) e
    ]

length_around_all : {X : Type 0} (xs : List X) (h : ℕ) → length (drop h xs ++ take h xs) ≡ length xs
length_around_all xs h = simp (length-append, length-drop, length-take) (omega arith)

pub length_around : {X : Type 0} (xs : List X) (h l : ℕ) → length (around xs h l) ≡ min l (length xs)
length_around xs h l = length-take l (drop h xs ++ take h xs) ∙ ap (min l) (length_around_all xs h)

pub around_within : {X : Type 0} (xs : List X) (h l : ℕ) → around xs h l ≡ around xs (min h (length xs)) (min l (length xs))
around_within xs h l =
    ap (take l) (around_head xs h)
    ∙ (let ys = drop (min h (length xs)) xs ++ take (min h (length xs)) xs in
    let n = length_around_all xs (min h (length xs)) in
    elim (cases_lt (length xs) l) [
      | inl a ↦ take_all l ys (omega arith) ∙ sym (take_all (min l (length xs)) ys (omega arith))
      | inr b ↦ let e : l ≡ min l (length xs) = omega arith in ap (λ i. take i ys) e
    ])

-- what stands at k
pub get_or_around : {X : Type 0} (xs : List X) (h l k : ℕ) (d : X) → h ≤ length xs → l ≤ length xs → k < l
    → get_or (around xs h l) k d ≡ get_or xs (place (length xs) h k) d
get_or_around xs h l k d hn ln kl =
    let ld = length-drop h xs in
    elim (cases_lt k (length xs - h)) [
      | inl a ↦
          get_or-take l _ k d kl ∙ get_or_append_left (drop h xs) (take h xs) d k (omega arith) ∙ get_or-drop h xs k d
          ∙ ap (λ i. get_or xs i d) (sym (cond-true _ (h + k) (k - (length xs - h)) (lt-ltb k (length xs - h) a)))
      | inr b ↦
          get_or-take l _ k d kl ∙ get_or-append_right (drop h xs) (take h xs) (length xs - h) k d ld b
          ∙ get_or-take h xs (k - (length xs - h)) d (omega arith)
          ∙ ap (λ i. get_or xs i d) (sym (cond-false _ (h + k) (k - (length xs - h)) (le-ltb k (length xs - h) b)))
    ]

pub place_bound : (n h k : ℕ) → h ≤ n → k < n → place n h k < n
place_bound n h k hn kn = grind (arith, nat_tests)

place_apart : (n h j k : ℕ) → h ≤ n → k < n → j < k → place n h j ≢ place n h k
place_apart n h j k hn kn jk = grind (arith, nat_tests)

place_next : (n h k : ℕ) → h ≤ n → k + 1 < n → place n (place n h 0 + 1) k ≡ place n h (k + 1)
place_next n h k hn kn = grind (arith, nat_tests)

-- one more element, written behind the newest
pub around_put : {X : Type 0} (xs : List X) (h l : ℕ) (x : X) → h ≤ length xs → l < length xs
    → around (set xs (place (length xs) h l) x) h (l + 1) ≡ around xs h l ++ x ∷ []
around_put xs h l x hn ln =
    let ys = set xs (place (length xs) h l) x in
    let n = length-set xs (place (length xs) h l) x in
    let la = length_around ys h (l + 1) in
    let lb = length_around xs h l in
    let lc = length_push (around xs h l) x in
    same_lists _ _ (omega arith) (λ k d kl.
    get_or_around ys h (l + 1) k d (omega arith) (omega arith) (omega arith)
    ∙ ap (λ m. get_or ys (place m h k) d) n
    ∙ elim (cases_lt k l) [
      | inl a ↦
          get_or-set_other xs (place (length xs) h l) (place (length xs) h k) x d (place_apart (length xs) h k l hn ln a)
          ∙ sym (get_or_append_left (around xs h l) (x ∷ []) d k (omega arith) ∙ get_or_around xs h l k d hn (omega arith) a)
      | inr b ↦
          let e : k ≡ l = omega arith in
          ap (λ m. get_or ys (place (length xs) h m) d) e
          ∙ get_or-set_same xs (place (length xs) h l) x d (place_bound (length xs) h l hn ln)
          ∙ sym (get_or_push (around xs h l) x d k (omega arith))
    ])

-- what is left once the oldest element is gone
pub around_take : {X : Type 0} (xs : List X) (h l : ℕ) → h ≤ length xs → l ≤ length xs → 0 < l
    → around xs (place (length xs) h 0 + 1) (l - 1) ≡ drop 1 (around xs h l)
around_take xs h l hn ln l0 =
    let pb = place_bound (length xs) h 0 hn (omega arith) in
    let la = length_around xs (place (length xs) h 0 + 1) (l - 1) in
    let lb = length_around xs h l in
    let lc = length-drop 1 (around xs h l) in
    same_lists _ _ (omega arith) (λ k d kl.
    get_or_around xs (place (length xs) h 0 + 1) (l - 1) k d (omega arith) (omega arith) (omega arith)
    ∙ ap (λ i. get_or xs i d) (place_next (length xs) h k hn (omega arith))
    ∙ sym (get_or_around xs h l (k + 1) d hn ln (omega arith))
    ∙ ap (λ i. get_or (around xs h l) i d) (let e : k + 1 ≡ 1 + k = omega arith in e)
    ∙ sym (get_or-drop 1 (around xs h l) k d))
