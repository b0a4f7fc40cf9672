-- What the writer leaves in its buffer. Assumes nothing.
use Rattle.std.proofs.Common.{◌≡◌, ℕ, suc, ◌+◌, ◌-◌, ◌≤◌, cond, not, ltb, List, [], ◌∷◌, ◌++◌, length, get_or, take, drop, set, sym, refl, ap, ◌∙◌, arith}
use borrow.Rule.Slice.PartMut.{put_mid}
use Rattle.std.proofs.lemmas.List.{append_assoc, drop_more, set_at, take_at}
use Rattle.std.proofs.lemmas.Slice.{put_mid-paste, drop-append-drop}
use Rattle.std.proofs.lemmas.List.Edits.{paste_all}
use Rattle.packet.specs.Format.{covered, packet, field_rules, writing_rules, writing, after_writing, reading}
use Rattle.packet.specs.Laws.{ReadsBack}
use Rattle.packet.specs.Letters.{known}
use Rattle.packet.specs.Refusals.{Answer, refused, gave, Rule, ◌⇒◌, judged}
use Rattle.packet.proofs.Judging.{past, passed, front_refuses}
use Rattle.packet.proofs.Readings.{found_letter}
use Rattle.packet.proofs.Roundtrip.{covered_long, packet_long, taken, reads_back}

-- a part written over is what stands there afterwards
put_is : (a k : ℕ) (d ys zs : List ℕ) → ys ≡ zs → length zs ≡ k → put_mid a k d ys ≡ take a d ++ (zs ++ drop (a + length zs) d)
put_is a k d ys zs e n = put_mid-paste a k d ys zs (length zs) e n refl ∙ paste_all d a zs (length zs) refl

pub fronted : (l : ℕ) (f g out : List ℕ) → g ≡ f → length f + 3 ≤ length out → set (put_mid 2 (length f + 2 - 2) (set (set out 0 2) 1 l) g) (length f + 2) 3 ≡ (2 ∷ covered l f) ++ drop (length f + 3) out
fronted l f g [] e h = absurd (omega arith)
fronted l f g (x ∷ []) e h = absurd (omega arith)
fronted l f g (x ∷ y ∷ rest) e h =
    let n = length f in
    let k : n ≡ n + 2 - 2 = omega arith in
    let two : 2 + n ≡ suc (suc n) = omega arith in
    let at : n + 2 ≡ suc (suc n) = omega arith in
    let past : n + 3 ≡ suc (suc (n + 1)) = omega arith in
    let put = put_is 2 (n + 2 - 2) (2 ∷ l ∷ rest) g f e k ∙ ap (λ (m : ℕ). 2 ∷ l ∷ (f ++ drop m (2 ∷ l ∷ rest))) two in
    ap (λ (xs : List ℕ). set xs (n + 2) 3) put
    ∙ ap (λ (m : ℕ). set (2 ∷ l ∷ (f ++ drop n rest)) m 3) at
    ∙ ap (λ (xs : List ℕ). 2 ∷ l ∷ set (f ++ xs) n 3) (drop_more rest n 0 (omega arith))
    ∙ ap (λ (xs : List ℕ). 2 ∷ l ∷ xs) (set_at f (get_or rest n 0) (drop (n + 1) rest) 3 n refl ∙ sym (append_assoc f (3 ∷ []) (drop (n + 1) rest)))
    ∙ ap (λ (m : ℕ). (2 ∷ covered l f) ++ drop m (x ∷ y ∷ rest)) (sym past)

frame_long : (l : ℕ) (f : List ℕ) → length (2 ∷ covered l f) ≡ length f + 3
frame_long l f = omega (arith, covered_long l f)

pub covered_is : (l : ℕ) (f out rest : List ℕ) → out ≡ (2 ∷ covered l f) ++ rest → take (length f + 3 - 1) (drop 1 out) ≡ covered l f
covered_is l f out rest e =
    ap (λ (xs : List ℕ). take (length f + 3 - 1) (drop 1 xs)) e ∙ take_at (covered l f) rest (length f + 3 - 1) (omega (arith, frame_long l f))

pub written : (c : ℕ) (check : List ℕ → List ℕ) (l : ℕ) (f out was w : List ℕ) → out ≡ (2 ∷ covered l f) ++ drop (length f + 3) was → w ≡ check (covered l f) → length (check (covered l f)) ≡ c
    → put_mid (length f + 3) (length f + 3 + c - (length f + 3)) out w ≡ packet check l f ++ drop (length f + 3 + c) was
written c check l f out was w e i n =
    let p = 2 ∷ covered l f in
    let k = check (covered l f) in
    let long = frame_long l f in
    let put = put_is (length f + 3) (length f + 3 + c - (length f + 3)) out w k i (omega (arith, n)) in
    let front : take (length f + 3) out ≡ p = ap (take (length f + 3)) e ∙ take_at p (drop (length f + 3) was) (length f + 3) long in
    let back : drop (length f + 3 + length k) out ≡ drop (length f + 3 + c) was =
    ap (drop (length f + 3 + length k)) e ∙ drop-append-drop (length f + 3) was p (length f + 3 + length k) (omega arith) long ∙ ap (λ (m : ℕ). drop (length f + 3 + m) was) n in
    put ∙ ap (λ (xs : List ℕ). xs ++ (k ++ drop (length f + 3 + length k) out)) front ∙ ap (λ (xs : List ℕ). p ++ (k ++ xs)) back ∙ sym (append_assoc p k (drop (length f + 3 + c) was))

-- the ways through the rules, with the letter that the code found
module _ (c l k : ℕ) (f : List ℕ) (n : ℕ) (found : gave k ≡ cond (known l) (gave l) (refused 3)) where
  abbrev room : Rule
  room = ltb n (length f + 3 + c) ⇒ 29

  moved : judged (field_rules k f) (tt {0}) ≡ judged (field_rules l f) (tt {0})
  moved = ap (λ (m : ℕ). judged (field_rules m f) (tt {0})) (found_letter k l found).0

  past_letter : writing c l f n ≡ judged (field_rules l f ++ (room ∷ [])) (length f + 3 + c)
  past_letter = past (not (known l) ⇒ 3 ∷ []) (field_rules l f ++ (room ∷ [])) (length f + 3 + c) (ap not (found_letter k l found).1, tt)

  pub way_field : (m : ℕ) → refused m ≡ judged (field_rules k f) (tt {0}) → refused m ≡ writing c l f n
  way_field m e = sym (past_letter ∙ front_refuses (field_rules l f) (room ∷ []) (length f + 3 + c) (tt {0}) m (e ∙ moved))

-- the packet stands at the buffer's front, so that many bytes read back
pub back : (c : ℕ) (check : List ℕ → List ℕ) (sized : (xs : List ℕ) → length (check xs) ≡ c) (l : ℕ) (f : List ℕ) (r : Answer ℕ) (out was : List ℕ) → r ≡ writing c l f (length was) → out ≡ after_writing r (packet check l f) was → ReadsBack c check l f r out
back c check sized l f r out was e is n h =
    let p = packet check l f in
    let goes = passed (writing_rules c l f (length was)) (length f + 3 + c) n (sym h ∙ e) in
    let long : length p ≡ n = packet_long c check sized l f ∙ goes.1 in
    let left : out ≡ p ++ drop n was = is ∙ ap (λ (a : Answer ℕ). after_writing a p was) h in
    let front : take n out ≡ p = ap (take n) left ∙ take_at p (drop n was) n long in
    ap (reading c check) front ∙ reads_back c check sized l f (taken c l f (length was) goes.0)
