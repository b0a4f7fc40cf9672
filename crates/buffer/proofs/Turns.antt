-- Records of a table in turn, as lists. Assumes nothing.
use Rattle.std.proofs.Common.{◌≡◌, ℕ, zero, suc, ◌+◌, ◌-◌, ◌%◌, ◌<◌, ◌≤◌, ◌≢◌, List, [], ◌∷◌, ◌++◌, map, length, get_or, drop, set, sym, refl, ap, ◌∙◌, arith, get_or-set_other, get_or-set_same}
use Rattle.std.specs.List.{range_with_len}
use Rattle.std.proofs.lemmas.List.FromFn.{length-map-range_with_len, map-range_with_len_more}
use Rattle.buffer.specs.Turns.{in_turn, turns}

module _ {X : Type 0} where
  map_same : (f g : ℕ → X) (k n : ℕ) → ((i : ℕ) → k ≤ i → i < k + n → f i ≡ g i) → map f (range_with_len k n) ≡ map g (range_with_len k n)
  map_same f g k zero h = refl
  map_same f g k (suc n) h =
      let here : f k ≡ g k = h k (omega arith) (omega arith) in
      let rest : map f (range_with_len (k + 1) n) ≡ map g (range_with_len (k + 1) n) = map_same f g (k + 1) n (λ i l u. h i (omega arith) (omega arith)) in
      cc

  map_next : (f : ℕ → X) (k n : ℕ) → map f (range_with_len (k + 1) n) ≡ map (λ i. f (i + 1)) (range_with_len k n)
  map_next f k zero = refl
  map_next f k (suc n) = ap (λ (xs : List X). f (k + 1) ∷ xs) (map_next f (k + 1) n)

pub length_turns : {R X : Type 0} (f : R → X) (blank : R) (rs : List R) (head k n : ℕ) → length (turns f blank rs head k n) ≡ n
length_turns f blank rs head k n = length-map-range_with_len (in_turn f blank rs head) k n

module _ {R X : Type 0} (f : R → X) (blank : R) (rs : List R) (head : ℕ) (low : head < 8) (long : length rs ≡ 8) where
  -- another record at the place u
  abbrev swapped : ℕ → R → List R
  swapped u r = set rs ((head + u) % 8) r

  there : (u : ℕ) (r : R) → u < 8 → in_turn f blank (swapped u r) head u ≡ f r
  there u r lt =
      let within : (head + u) % 8 < length rs = omega arith in
      ap f (get_or-set_same rs ((head + u) % 8) r blank within)

  elsewhere : (u : ℕ) (r : R) (i : ℕ) → i ≢ u → i < 8 → u < 8 → in_turn f blank (swapped u r) head i ≡ in_turn f blank rs head i
  elsewhere u r i ne lt lu =
      let apart : (head + i) % 8 ≢ (head + u) % 8 = omega arith in
      ap f (get_or-set_other rs ((head + u) % 8) ((head + i) % 8) r blank apart)

  -- those before the place are as they were
  pub before_kept : (u : ℕ) (r : R) (k n : ℕ) → k + n ≤ u → u < 8 → turns f blank (swapped u r) head k n ≡ turns f blank rs head k n
  before_kept u r k n le lt =
      map_same _ _ k n (λ i low high. let ne : i ≢ u = omega arith in elsewhere u r i ne (omega arith) lt)

  -- those up to the place, and then the new one
  pub one_more : (u k n n' : ℕ) (r : R) → n' ≡ n + 1 → k + n ≡ u → u < 8 → turns f blank (swapped u r) head k n' ≡ turns f blank rs head k n ++ f r ∷ []
  one_more u k n n' r more end lt =
      ap (λ (m : ℕ). turns f blank (swapped u r) head k m) more
      ∙ map-range_with_len_more (in_turn f blank (swapped u r) head) k n u end
      ∙ ap (λ (xs : List X). xs ++ in_turn f blank (swapped u r) head u ∷ []) (before_kept u r k n (omega arith) lt)
      ∙ ap (λ (x : X). turns f blank rs head k n ++ x ∷ []) (there u r lt)

  -- those behind the place, up to the place v
  pub behind_kept : (u v : ℕ) (r : R) → u < v → v ≤ 8 → turns f blank (swapped u r) head (u + 1) (v - (u + 1)) ≡ drop 1 (turns f blank rs head u (v - u))
  behind_kept u v r lt le =
      let n : v - u ≡ suc (v - (u + 1)) = omega arith in
      map_same _ (in_turn f blank rs head) (u + 1) (v - (u + 1)) (λ i low high. let ne : i ≢ u = omega arith in elsewhere u r i ne (omega arith) (omega arith))
      ∙ ap (λ (m : ℕ). drop 1 (turns f blank rs head u m)) (sym n)

  -- from the next place as its head on
  turned : (k n : ℕ) → turns f blank rs ((head + 1) % 8) k n ≡ turns f blank rs head (k + 1) n
  turned k n =
      map_same _ _ k n (λ i low high. let same : ((head + 1) % 8 + i) % 8 ≡ (head + (i + 1)) % 8 = omega arith in ap (λ (j : ℕ). f (get_or rs j blank)) same)
      ∙ sym (map_next (in_turn f blank rs head) k n)

  pub later_kept : (u v : ℕ) → 0 < u → u ≤ v → turns f blank rs ((head + 1) % 8) (u - 1) (v - 1 - (u - 1)) ≡ turns f blank rs head u (v - u)
  later_kept u v some le =
      let n : v - 1 - (u - 1) ≡ v - u = omega arith in
      let s : u - 1 + 1 ≡ u = omega arith in
      turned (u - 1) (v - 1 - (u - 1)) ∙ ap (λ (j : ℕ). turns f blank rs head j (v - 1 - (u - 1))) s ∙ ap (λ (m : ℕ). turns f blank rs head u m) n

  -- the one at the head, and then the others
  pub first_of : (n : ℕ) → 0 < n → turns f blank rs head 0 n ≡ f (get_or rs head blank) ∷ turns f blank rs ((head + 1) % 8) 0 (n - 1)
  first_of n some =
      let s : n ≡ suc (n - 1) = omega arith in
      let z : (head + 0) % 8 ≡ head = omega arith in
      ap (λ (m : ℕ). turns f blank rs head 0 m) s
      ∙ ap (λ (ys : List X). in_turn f blank rs head 0 ∷ ys) (sym (turned 0 (n - 1)))
      ∙ ap (λ (j : ℕ). f (get_or rs j blank) ∷ turns f blank rs ((head + 1) % 8) 0 (n - 1)) z
