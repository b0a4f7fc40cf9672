-- A written packet altered in just one byte is refused. Assumes nothing.
use Rattle.std.proofs.Common.{◌≡◌, ℕ, zero, suc, ◌-◌, ◌<◌, ◌≤◌, Bool, true, false, cond, leb, ◌⊎◌, List, [], ◌∷◌, ◌++◌, length, get_or, take, drop, set, sym, refl, ap, ◌∙◌, subst, inl, inr, arith, length-append, length-set}
use Rattle.std.proofs.lemmas.List.{take_at, drop_at, get_or_append_left, get_or-append_right, get_or-set_same, set-append_left, set-append_right}
use Rattle.std.proofs.lemmas.Bool.{and_parts, cases_lt, leb-true}
use Rattle.std.proofs.lemmas.Bool.Decides.{nat_tests}
use Rattle.packet.specs.Checks.{Each, Altered}
use Rattle.packet.specs.Format.{Parts, parts, covered, packet, reading}
use Rattle.packet.specs.Laws.{AlteredRefused}
use Rattle.packet.specs.Letters.{between, known, is_data, each_between, least, greatest}
use Rattle.packet.specs.Ranges.{each_append, head_same}
use Rattle.packet.specs.Refusals.{Answer, refused, gave}
use Rattle.packet.proofs.Roundtrip.{Accepted, accepted, read_is_written}

-- equal lists whose fronts are equally long have equal parts
fronts : (p q r s : List ℕ) → length p ≡ length r → p ++ q ≡ r ++ s → (p ≡ r) × (q ≡ s)
fronts p q r s n e = (
  sym (take_at p q (length p) refl) ∙ ap (take (length p)) e ∙ take_at r s (length p) (sym n),
  sym (drop_at p q (length p) refl) ∙ ap (drop (length p)) e ∙ drop_at r s (length p) (sym n),
)

tail_same : {a b : ℕ} {xs ys : List ℕ} → a ∷ xs ≡ b ∷ ys → xs ≡ ys
tail_same e = cc

-- a known letter, and each byte that a field may hold, lies below 128
known_low : (l : ℕ) → known l ≡ true → l ≤ 0x7f
known_low l h = grind (arith, nat_tests)

greatest_low : (l : ℕ) → greatest l ≤ 0x7f
greatest_low l = go (is_data l)
  where
    go : (t : Bool) → cond t 0x7e 0x38 ≤ 0x7f
    go true = omega arith
    go false = omega arith

each_low : (a b : ℕ) (xs : List ℕ) → b ≤ 0x7f → each_between a b xs ≡ true → Each 0 0x7f xs
each_low a b [] h t k lt = absurd (omega arith)
each_low a b (x ∷ xs) h t zero lt =
    let both = and_parts (between a b x) (each_between a b xs) t in
    let under = leb-true x b (and_parts (leb a x) (leb x b) both.0).1 in
    (omega arith, omega arith)
each_low a b (x ∷ xs) h t (suc k) lt = each_low a b xs h (and_parts (between a b x) (each_between a b xs) t).1 k (omega arith)

covered_low : (l : ℕ) (f : List ℕ) → Accepted l f → Each 0 0x7f (covered l f)
covered_low l f a zero lt = let h = known_low l a.letter in (omega arith, omega arith)
covered_low l f a (suc k) lt = each_append 0 0x7f f (3 ∷ []) (each_low (least l) (greatest l) f (greatest_low l) a.bytes) three k (omega arith)
  where
    three : Each 0 0x7f (3 ∷ [])
    three zero lt = (omega arith, omega arith)
    three (suc k) lt = absurd (omega arith)

module _ (c : ℕ) (check : List ℕ → List ℕ) (sized : (xs : List ℕ) → length (check xs) ≡ c) (tell : (xs ys : List ℕ) → Each 0 0x7f xs → Each 0 0x7f ys → Altered xs ys → check xs ≡ check ys → ⊥) where
  -- two packets that differ in just one byte
  apart : (l k : ℕ) (f g : List ℕ) → Accepted l f → Accepted k g → (i v : ℕ) → i < length (packet check l f) → (get_or (packet check l f) i 0 ≡ v → ⊥) → packet check k g ≡ set (packet check l f) i v → ⊥
  apart l k f g a a' zero v lt ne e = ne (head_same e)
  apart l k f g a a' (suc j) v lt ne e =
      let F = covered l f in
      let G = covered k g in
      let rest : G ++ check G ≡ set (F ++ check F) j v = tail_same e in
      let n : length G ≡ length F = omega (arith, ap length rest, length-set (F ++ check F) j v, length-append F (check F), length-append G (check G), sized F, sized G) in
      go n rest (cases_lt j (length F))
    where
      go : length (covered k g) ≡ length (covered l f) → covered k g ++ check (covered k g) ≡ set (covered l f ++ check (covered l f)) j v → (j < length (covered l f)) ⊎ (length (covered l f) ≤ j) → ⊥
      go n rest (inl here) =
          let F = covered l f in
          let G = covered k g in
          let two = fronts G (check G) (set F j v) (check F) (n ∙ sym (length-set F j v)) (rest ∙ set-append_left F (check F) j v here) in
          tell F G (covered_low l f a) (covered_low k g a') (j, v, here, two.0, λ z. ne (get_or_append_left F (check F) 0 j here ∙ z)) (sym two.1)
      go n rest (inr there) =
          let F = covered l f in
          let G = covered k g in
          let at = j - length F in
          let two = fronts G (check G) F (set (check F) at v) n (rest ∙ set-append_right F (check F) (length F) j v refl there) in
          let back : check F ≡ set (check F) at v = sym (ap check two.0) ∙ two.1 in
          let within : at < length (check F) = omega (arith, lt, length-append F (check F)) in
          ne (get_or-append_right F (check F) (length F) j 0 refl there ∙ ap (λ (xs : List ℕ). get_or xs at 0) back ∙ get_or-set_same (check F) at v 0 within)

  pub altered_refused : (b : List ℕ) (r : Answer Parts) → r ≡ reading c check b → AlteredRefused c check b r
  altered_refused b (refused n) e l f p m d = (n, refl)
  altered_refused b (gave (parts k q g)) e l f p m (i, v, lt, is, ne) =
      let w = read_is_written c check sized b k q g e in
      let made : packet check l f ≡ p = m.1 in
      absurd (apart l k f g (accepted c check sized l f p m) w.0 i v (subst (λ (xs : List ℕ). i < length xs) (sym made) lt) (λ h. ne (ap (λ (xs : List ℕ). get_or xs i 0) (sym made) ∙ h)) (w.1 ∙ is ∙ ap (λ (xs : List ℕ). set xs i v) (sym made)))
