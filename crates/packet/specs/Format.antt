-- What a packet is, and what reading and writing one mean, over bytes alone. Assumes nothing.
use Rattle.std.specs.Prelude.{ℕ, ◌+◌, ◌-◌, not, List, [], ◌∷◌, ◌++◌, length, take, drop, ◌==◌, nat_lt, slice_index}
use Rattle.std.specs.Str.{bytes_eq}
use Rattle.packet.specs.Letters.{between, known, fits, allowed}
use Rattle.packet.specs.Refusals.{Answer, refused, gave, Rule, ◌⇒◌, judged}

-- what reading gives: the letter, the field's place in the burst, and the field
pub data Parts : Type 0 where
  parts : ℕ → ℕ → List ℕ → Parts

-- the covered bytes: from the letter to ETX
abbrev pub covered : ℕ → List ℕ → List ℕ
covered l f = l ∷ (f ++ 0x03 ∷ [])

-- the packet of a letter and a field, by the check of a kind
abbrev pub packet : (List ℕ → List ℕ) → ℕ → List ℕ → List ℕ
packet check l f = (0x02 ∷ covered l f) ++ check (covered l f)

abbrev pub field_rules : ℕ → List ℕ → List Rule
field_rules l f = not (fits l (length f)) ⇒ 4 ∷ not (allowed l f) ⇒ 5 ∷ []

-- the parts of a burst that ends in c check bytes, counted from its end
module _ (c : ℕ) (b : List ℕ) where
  abbrev pub field_of : List ℕ
  field_of = take (length b - c - 3) (drop 2 b)

  abbrev pub covered_of : List ℕ
  covered_of = take (length b - c - 1) (drop 1 b)

  abbrev pub end_byte : ℕ
  end_byte = slice_index b (length b - c - 1)

  abbrev pub check_of : List ℕ
  check_of = drop (length b - c) b

  abbrev pub parts_of : Parts
  parts_of = parts (slice_index b 1) 2 field_of

abbrev pub start_rules : ℕ → List ℕ → List Rule
start_rules c b = not (between (3 + c) (99 + c) (length b)) ⇒ 1 ∷ not (slice_index b 0 == 0x02) ⇒ 2 ∷ not (known (slice_index b 1)) ⇒ 3 ∷ []

abbrev pub end_rules : ℕ → (List ℕ → List ℕ) → List ℕ → List Rule
end_rules c check b = not (end_byte c b == 0x03) ⇒ 6 ∷ not (bytes_eq (check_of c b) (check (covered_of c b))) ⇒ 7 ∷ []

-- reading a burst, by a kind with c check bytes
abbrev pub reading : ℕ → (List ℕ → List ℕ) → List ℕ → Answer Parts
reading c check b = judged (start_rules c b ++ (field_rules (slice_index b 1) (field_of c b) ++ end_rules c check b)) (parts_of c b)

-- writing a letter and a field, with c check bytes, into a buffer of n bytes: the packet's length
abbrev pub writing_rules : ℕ → ℕ → List ℕ → ℕ → List Rule
writing_rules c l f n = not (known l) ⇒ 3 ∷ (field_rules l f ++ (nat_lt n (length f + 3 + c) ⇒ 29 ∷ []))

abbrev pub writing : ℕ → ℕ → List ℕ → ℕ → Answer ℕ
writing c l f n = judged (writing_rules c l f n) (length f + 3 + c)

-- the buffer afterwards: the packet and the bytes beyond it, or after a refusal as it was
abbrev pub after_writing : Answer ℕ → List ℕ → List ℕ → List ℕ
after_writing (refused n) p out = out
after_writing (gave n) p out = p ++ drop n out
