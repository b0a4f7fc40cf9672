-- The reader's way through the rules. Assumes nothing.
use Rattle.std.proofs.Common.{◌≡◌, ℕ, ◌+◌, ◌-◌, ◌≤◌, Bool, true, false, cond, not, eqb, List, [], ◌∷◌, ◌++◌, length, get_or, take, drop, replicate, sym, refl, ap, ◌∙◌, arith}
use Rattle.std.specs.Str.{bytes_eq}
use Rattle.std.proofs.lemmas.List.{take_rest, take_at, get_or-drop}
use Rattle.std.proofs.lemmas.Bool.{eq-eqb, ne_eqb}
use Rattle.std.proofs.lemmas.Bool.Decides.{nat_tests}
use Rattle.packet.specs.Checks.{padded}
use Rattle.packet.specs.Letters.{between, known}
use Rattle.packet.specs.Format.{parts, parts_of, field_of, covered_of, end_byte, check_of, field_rules, start_rules, end_rules, reading}
use Rattle.packet.specs.Refusals.{refused, gave, ◌⇒◌, judged}
use Rattle.packet.proofs.Judging.{never, past, all_past, stopped, front_refuses, passed}

-- the burst after its first two bytes, as the code has it
abbrev pub rest_of : List ℕ → List ℕ
rest_of b = take (length b - 2) (drop 2 b)

-- a letter that was found is the byte itself, and known
pub found_letter : (k b : ℕ) → gave k ≡ cond (known b) (gave b) (refused 3) → (k ≡ b) × (known b ≡ true)
found_letter k b e = go (known b) refl
  where
    go : (t : Bool) → known b ≡ t → (k ≡ b) × (known b ≡ true)
    go true is = let f : gave k ≡ gave b = e ∙ ap (λ (x : Bool). cond x (gave b) (refused 3)) is in (cc, is)
    go false is = never 3 k (sym (e ∙ ap (λ (x : Bool). cond x (gave b) (refused 3)) is))

-- the first three rules are passed: what is left, at the letter k and the field f that the code has
pub record Begun (c : ℕ) (check : List ℕ → List ℕ) (b : List ℕ) (k : ℕ) (f : List ℕ) : Type 0 where
  pub on : reading c check b ≡ judged (field_rules k f ++ end_rules c check b) (parts k 2 f)

pub begun : (c r : ℕ) (check : List ℕ → List ℕ) (b : List ℕ) (k : ℕ) → r ≡ c → between (3 + c) (99 + c) (length b) ≡ true → get_or b 0 0 ≡ 2 → gave k ≡ cond (known (get_or b 1 0)) (gave (get_or b 1 0)) (refused 3)
    → Begun c check b k (take (length b - r - 3) (rest_of b))
begun c r check b k e long first l =
    let found = found_letter k (get_or b 1 0) l in
    let on = past (start_rules c b) (field_rules (get_or b 1 0) (field_of c b) ++ end_rules c check b) (parts_of c b) (ap not long, (ap not (eq-eqb _ _ first), (ap not found.1, tt))) in
    record { on = rw (e, take_rest b 2, found.0) on }

-- the end byte, as the code reads it
pub end_at : (c r : ℕ) (b : List ℕ) → r ≡ c → between (3 + c) (99 + c) (length b) ≡ true → get_or (rest_of b) (length b - r - 3) 0 ≡ end_byte c b
end_at c r b e long =
    let low : 3 + c ≤ length b = grind (arith, nat_tests) in
    let n : 2 + (length b - r - 3) ≡ length b - c - 1 = omega arith in
    ap (λ (xs : List ℕ). get_or xs (length b - r - 3) 0) (take_rest b 2) ∙ get_or-drop 2 b (length b - r - 3) 0 ∙ ap (λ (k : ℕ). get_or b k 0) n

-- the ways out
module _ (c : ℕ) (check : List ℕ → List ℕ) (b : List ℕ) (k : ℕ) (f : List ℕ) (begin : Begun c check b k f) where
  pub way_field : (n : ℕ) → refused n ≡ judged (field_rules k f) (tt {0}) → refused n ≡ reading c check b
  way_field n e = sym (begin.on ∙ front_refuses (field_rules k f) (end_rules c check b) (parts k 2 f) (tt {0}) n e)

  module _ (u : Unit {0}) (fits : gave u ≡ judged (field_rules k f) (tt {0})) where
    at_end : reading c check b ≡ judged (end_rules c check b) (parts k 2 f)
    at_end = begin.on ∙ past (field_rules k f) (end_rules c check b) (parts k 2 f) (passed (field_rules k f) (tt {0}) u fits).0

    pub way_end : (end_byte c b ≡ 3 → ⊥) → refused 6 ≡ reading c check b
    way_end e = sym (at_end ∙ stopped (not (eqb (end_byte c b) 3)) 6 (not (bytes_eq (check_of c b) (check (covered_of c b))) ⇒ 7 ∷ []) (parts k 2 f) (ap not (ne_eqb _ _ e)))

    pub way_check : end_byte c b ≡ 3 → false ≡ bytes_eq (check_of c b) (check (covered_of c b)) → refused 7 ≡ reading c check b
    way_check e t =
        sym (at_end ∙ past (not (eqb (end_byte c b) 3) ⇒ 6 ∷ []) (not (bytes_eq (check_of c b) (check (covered_of c b))) ⇒ 7 ∷ []) (parts k 2 f) (ap not (eq-eqb _ _ e), tt) ∙ stopped _ 7 [] (parts k 2 f) (ap not (sym t)))

    pub way_out : end_byte c b ≡ 3 → true ≡ bytes_eq (check_of c b) (check (covered_of c b)) → gave (parts k 2 f) ≡ reading c check b
    way_out e t = sym (at_end ∙ all_past (end_rules c check b) (parts k 2 f) (ap not (eq-eqb _ _ e), (ap not (sym t), tt)))

-- the check bytes at the front of the answer of a kind
pub check_front : (c : ℕ) (ks m : List ℕ) → ks ≡ padded c m → length m ≡ c → take c ks ≡ m
check_front c ks m e n = ap (take c) e ∙ take_at m (replicate (5 - c) 0) c n
