-- What is written reads back, and what is read was written. Assumes nothing.
use Rattle.std.proofs.Common.{◌≡◌, ℕ, suc, ◌+◌, ◌-◌, ◌≤◌, true, not, eqb, List, [], ◌∷◌, ◌++◌, length, get_or, take, drop, sym, refl, ap, ◌∙◌, arith, length-append, take-append-drop}
use Rattle.std.specs.Str.{bytes_eq}
use Rattle.std.proofs.lemmas.Slice.Eq.{bytes_eq-Decides}
use Rattle.std.proofs.lemmas.List.{append_assoc, take_at, drop_at, get_or_at, drop_more}
use Rattle.std.proofs.lemmas.Bool.{eqb-true, le-ltb, not-false}
use Rattle.std.proofs.lemmas.Bool.Decides.{nat_tests}
use Rattle.packet.specs.Letters.{between, known, fits, allowed}
use Rattle.packet.specs.Format.{Parts, parts, parts_of, field_of, covered_of, end_byte, check_of, covered, packet, field_rules, start_rules, end_rules, reading, writing_rules}
use Rattle.packet.specs.Laws.{Makes, ReadAsWritten}
use Rattle.packet.specs.Refusals.{Answer, gave}
use Rattle.packet.proofs.Judging.{Passed, all_past, passed}

-- a letter and a field that the writer takes
pub record Accepted (l : ℕ) (f : List ℕ) : Type 0 where
  pub letter : known l ≡ true
  pub size : fits l (length f) ≡ true
  pub bytes : allowed l f ≡ true

pub taken : (c l : ℕ) (f : List ℕ) (n : ℕ) → Passed (writing_rules c l f n) → Accepted l f
taken c l f n p = record { letter = not-false _ p.0; size = not-false _ p.1.0; bytes = not-false _ p.1.1.0 }

pub covered_long : (l : ℕ) (f : List ℕ) → length (covered l f) ≡ length f + 2
covered_long l f = omega (arith, length-append f (3 ∷ []))

-- a field that fits has at most 96 bytes
fits_short : (l n : ℕ) → fits l n ≡ true → n ≤ 96
fits_short l n h = grind (arith, nat_tests)

-- a burst taken apart and put together again
rebuilt : (b : List ℕ) (n l : ℕ) (k : List ℕ) → 3 + n ≤ length b → get_or b 0 0 ≡ 2 → get_or b 1 0 ≡ l → get_or b (2 + n) 0 ≡ 3 → drop (3 + n) b ≡ k → b ≡ (2 ∷ covered l (take n (drop 2 b))) ++ k
rebuilt [] n l k h e₀ e₁ e₃ e = absurd (omega arith)
rebuilt (x ∷ []) n l k h e₀ e₁ e₃ e = absurd (omega arith)
rebuilt (x ∷ y ∷ r) n l k h e₀ e₁ e₃ e =
    let two : 2 + n ≡ suc (suc n) = omega arith in
    let three : 3 + n ≡ suc (suc (n + 1)) = omega arith in
    let etx : get_or r n 0 ≡ 3 = ap (λ (m : ℕ). get_or (x ∷ y ∷ r) m 0) (sym two) ∙ e₃ in
    let back : drop (n + 1) r ≡ k = ap (λ (m : ℕ). drop m (x ∷ y ∷ r)) (sym three) ∙ e in
    let split : drop n r ≡ 3 ∷ k = drop_more r n 0 (omega arith) ∙ ap (λ (z : ℕ). z ∷ drop (n + 1) r) etx ∙ ap (λ (zs : List ℕ). 3 ∷ zs) back in
    let whole : r ≡ take n r ++ (3 ∷ k) = sym (take-append-drop n r) ∙ ap (λ (zs : List ℕ). take n r ++ zs) split in
    ap (λ (z : ℕ). z ∷ y ∷ r) e₀ ∙ ap (λ (z : ℕ). 2 ∷ z ∷ r) e₁ ∙ ap (λ (zs : List ℕ). 2 ∷ l ∷ zs) (whole ∙ sym (append_assoc (take n r) (3 ∷ []) k))

pub letter_same : {k l p q : ℕ} {f g : List ℕ} → parts k p f ≡ parts l q g → k ≡ l
letter_same e = cc

field_same : {k l p q : ℕ} {f g : List ℕ} → parts k p f ≡ parts l q g → f ≡ g
field_same e = cc

module _ (c : ℕ) (check : List ℕ → List ℕ) (sized : (xs : List ℕ) → length (check xs) ≡ c) where
  pub packet_long : (l : ℕ) (f : List ℕ) → length (packet check l f) ≡ length f + 3 + c
  packet_long l f = omega (arith, length-append (2 ∷ covered l f) (check (covered l f)), covered_long l f, sized (covered l f))

  pub accepted : (l : ℕ) (f b : List ℕ) → Makes c check l f b → Accepted l f
  accepted l f b m = taken c l f (length b) (passed (writing_rules c l f (length b)) (length f + 3 + c) (length b) (sym m.0)).0

  pub makes : (l : ℕ) (f b : List ℕ) → Accepted l f → packet check l f ≡ b → Makes c check l f b
  makes l f b a e =
      let n : length f + 3 + c ≡ length b = sym (packet_long l f) ∙ ap length e in
      let enough = le-ltb (length b) (length f + 3 + c) (omega arith) in
      let goes = all_past (writing_rules c l f (length b)) (length f + 3 + c) (ap not a.letter, (ap not a.size, (ap not a.bytes, (enough, tt)))) in
      (goes ∙ ap (λ (k : ℕ). gave k) n, e)

  pub reads_back : (l : ℕ) (f : List ℕ) → Accepted l f → reading c check (packet check l f) ≡ gave (parts l 2 f)
  reads_back l f a =
      let b = packet check l f in
      let k = check (covered l f) in
      let n = packet_long l f in
      let short = fits_short l (length f) a.size in
      let inner = append_assoc f (3 ∷ []) k in
      let field : field_of c b ≡ f = ap (λ (m : ℕ). take m ((f ++ 3 ∷ []) ++ k)) (omega arith) ∙ ap (take (length f)) inner ∙ take_at f (3 ∷ k) (length f) refl in
      let covers : covered_of c b ≡ covered l f = take_at (covered l f) k (length b - c - 1) (omega (arith, covered_long l f)) in
      let at : length b - c - 1 ≡ suc (suc (length f)) = omega arith in
      let end : end_byte c b ≡ 3 = ap (λ (m : ℕ). get_or b m 0) at ∙ ap (λ (xs : List ℕ). get_or xs (length f) 0) inner ∙ get_or_at f 3 k 0 (length f) refl in
      let rest : check_of c b ≡ k = drop_at (2 ∷ covered l f) k (length b - c) (omega (arith, covered_long l f)) in
      let long : between (3 + c) (99 + c) (length b) ≡ true = grind (arith, nat_tests) in
      let fit : fits l (length (field_of c b)) ≡ true = ap (λ (xs : List ℕ). fits l (length xs)) field ∙ a.size in
      let allow : allowed l (field_of c b) ≡ true = ap (allowed l) field ∙ a.bytes in
      let etx : eqb (end_byte c b) 3 ≡ true = ap (λ (m : ℕ). eqb m 3) end in
      let same : bytes_eq (check_of c b) (check (covered_of c b)) ≡ true = (bytes_eq-Decides (check_of c b) (check (covered_of c b))).1 (rest ∙ ap check (sym covers)) in
      all_past (start_rules c b ++ (field_rules l (field_of c b) ++ end_rules c check b)) (parts_of c b) (ap not long, (refl, (ap not a.letter, (ap not fit, (ap not allow, (ap not etx, (ap not same, tt)))))))
      ∙ ap (λ (g : List ℕ). gave (parts l 2 g)) field

  pub read_is_written : (b : List ℕ) (l p : ℕ) (f : List ℕ) → gave (parts l p f) ≡ reading c check b → Accepted l f × (packet check l f ≡ b)
  read_is_written b l p f e =
      let all = passed (start_rules c b ++ (field_rules (get_or b 1 0) (field_of c b) ++ end_rules c check b)) (parts_of c b) (parts l p f) e in
      let is = all.1 in
      let t = all.0 in
      let room : between (3 + c) (99 + c) (length b) ≡ true = not-false _ t.0 in
      let enough : 3 + c ≤ length b = grind (arith, nat_tests) in
      let letter : get_or b 1 0 ≡ l = letter_same is in
      let field : field_of c b ≡ f = field_same is in
      let stx : get_or b 0 0 ≡ 2 = eqb-true _ _ (not-false _ t.1.0) in
      let n = length b - c - 3 in
      let at : 2 + n ≡ length b - c - 1 = omega arith in
      let past : 3 + n ≡ length b - c = omega arith in
      let etx : get_or b (2 + n) 0 ≡ 3 = ap (λ (m : ℕ). get_or b m 0) at ∙ eqb-true _ _ (not-false _ t.1.1.1.1.1.0) in
      let same : check_of c b ≡ check (covered_of c b) = (bytes_eq-Decides (check_of c b) (check (covered_of c b))).0 (not-false _ t.1.1.1.1.1.1.0) in
      let made : b ≡ (2 ∷ covered l (field_of c b)) ++ check (covered_of c b) = rebuilt b n l (check (covered_of c b)) (omega arith) stx letter etx (ap (λ (m : ℕ). drop m b) past ∙ same) in
      let cut : covered_of c b ≡ covered l (field_of c b) =
      covers b l (field_of c b) (check (covered_of c b)) (length b - c - 1) made (omega (arith, ap length made, length-append (2 ∷ covered l (field_of c b)) (check (covered_of c b)), sized (covered_of c b))) in
      let whole : b ≡ packet check l f = made ∙ ap (λ (xs : List ℕ). (2 ∷ covered l (field_of c b)) ++ check xs) cut ∙ ap (packet check l) field in
      let is_known : known l ≡ true = ap known (sym letter) ∙ not-false _ t.1.1.0 in
      let is_fit : fits l (length f) ≡ true = ap (λ (k : ℕ). fits k (length f)) (sym letter) ∙ ap (λ (xs : List ℕ). fits (get_or b 1 0) (length xs)) (sym field) ∙ not-false _ t.1.1.1.0 in
      let is_allowed : allowed l f ≡ true = ap (λ (k : ℕ). allowed k f) (sym letter) ∙ ap (allowed (get_or b 1 0)) (sym field) ∙ not-false _ t.1.1.1.1.0 in
      (record { letter = is_known; size = is_fit; bytes = is_allowed }, sym whole)
    where
      covers : (b : List ℕ) (l : ℕ) (f k : List ℕ) (n : ℕ) → b ≡ (2 ∷ covered l f) ++ k → length (covered l f) ≡ n → take n (drop 1 b) ≡ covered l f
      covers b l f k n e h = ap (λ (xs : List ℕ). take n (drop 1 xs)) e ∙ take_at (covered l f) k n h

  pub read_as_written : (b : List ℕ) (r : Answer Parts) → r ≡ reading c check b → ReadAsWritten c check b r
  read_as_written b r e l f = (
    λ h. let w = read_is_written b l 2 f (sym h ∙ e) in makes l f b w.0 w.1,
    λ m. e ∙ ap (reading c check) (sym m.1) ∙ reads_back l f (accepted l f b m),
  )
