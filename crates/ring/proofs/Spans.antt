-- What one step of a store does to its elements. A step first puts the span's numbers within the memory.
use Rattle.std.proofs.Common.{◌≡◌, ℕ, ◌+◌, ◌-◌, ◌<◌, ◌≤◌, min, List, [], ◌∷◌, ◌++◌, length, get_or, take, drop, set, Some, sym, refl, ap, ◌∙◌, arith}
use lib.Seq.{take-set-lt}
use Rattle.std.specs.List.{slice_get}
use Rattle.std.proofs.lemmas.List.{length-take, get_or-take, length-set}
use Rattle.std.proofs.lemmas.Option.{slice_get_read}
use Rattle.ring.specs.declared.slots.Span.{Span}
use Rattle.ring.specs.Slots.{around, held, place, Within}
use Rattle.ring.proofs.Around.{length_around, around_within, get_or_around, place_bound, around_put, around_take}

-- the places that serve
length_front : {X : Type 0} (xs : List X) (s w : Span) → Within (length xs) s w → length (take s.limit xs) ≡ w.limit
length_front xs s w e = length-take s.limit xs ∙ (let q : min s.limit (length xs) ≡ w.limit = omega arith in q)

held_within : {X : Type 0} (xs : List X) (s w : Span) → Within (length xs) s w → held xs s ≡ around (take s.limit xs) w.head w.len
held_within xs s w e =
    let n = length_front xs s w e in
    let h : min s.head (length (take s.limit xs)) ≡ w.head = omega arith in
    let l : min s.len (length (take s.limit xs)) ≡ w.len = omega arith in
    around_within (take s.limit xs) s.head s.len
    ∙ ap (λ i. around (take s.limit xs) i (min s.len (length (take s.limit xs)))) h
    ∙ ap (λ i. around (take s.limit xs) w.head i) l

pub length_held : {X : Type 0} (xs : List X) (s : Span) → length (held xs s) ≡ min s.len (min (length xs) s.limit)
length_held xs s =
    let n = length-take s.limit xs in
    length_around (take s.limit xs) s.head s.len ∙ (let q : min s.len (length (take s.limit xs)) ≡ min s.len (min (length xs) s.limit) = omega arith in q)

-- the place of an element that is there, or of the next one
spot_bound : (w : Span) (k i : ℕ) → w.head ≤ w.limit → k < w.limit → i ≡ place w.limit w.head k → i < w.limit
spot_bound w k i h l p = omega (arith, place_bound w.limit w.head k h l)

-- a span of one element more, and one whose oldest element is gone
abbrev longer : Span → Span
longer s = record { limit = s.limit; head = s.head; len = s.len + 1 }

abbrev pub from : Span → ℕ → ℕ → Span
from s head len = record { limit = s.limit; head = head; len = len }

within_longer : {X : Type 0} (xs : List X) (s w : Span) (i : ℕ) (x : X) → Within (length xs) s w → w.len < w.limit → Within (length (set xs i x)) (longer s) (longer w)
within_longer xs s w i x e h =
    let n = length-set xs i x in record { limit = omega arith; head = e.head; len = omega arith }

pub put_after : {X : Type 0} (xs : List X) (s w : Span) (i : ℕ) (x : X) → Within (length xs) s w → w.len < w.limit → i ≡ place w.limit w.head w.len
    → held (set xs i x) (longer s) ≡ held xs s ++ x ∷ []
put_after xs s w i x e h p =
    let n = length_front xs s w e in
    let b = spot_bound w w.len i (omega arith) h p in
    let ys = take s.limit xs in
    held_within (set xs i x) (longer s) (longer w) (within_longer xs s w i x e h)
    ∙ ap (λ zs. around zs w.head (w.len + 1)) (take-set-lt s.limit xs i x (omega arith))
    ∙ ap (λ j. around (set ys j x) w.head (w.len + 1)) (p ∙ ap (λ m. place m w.head w.len) (sym n))
    ∙ around_put ys w.head w.len x (omega arith) (omega arith)
    ∙ ap (λ zs. zs ++ x ∷ []) (sym (held_within xs s w e))

pub take_after : {X : Type 0} (xs : List X) (s w : Span) (i : ℕ) → Within (length xs) s w → 0 < w.len → i ≡ place w.limit w.head 0
    → held xs (from s (i + 1) (w.len - 1)) ≡ drop 1 (held xs s)
take_after xs s w i e h p =
    let n = length_front xs s w e in
    let b = spot_bound w 0 i (omega arith) (omega arith) p in
    let ys = take s.limit xs in
    ap (λ j. around ys (j + 1) (w.len - 1)) (p ∙ ap (λ m. place m w.head 0) (sym n))
    ∙ around_take ys w.head w.len (omega arith) (omega arith) h
    ∙ ap (drop 1) (sym (held_within xs s w e))

pub some_at : {X : Type 0} (xs : List X) (s w : Span) (k i : ℕ) (x : X) → Within (length xs) s w → k < w.len → i ≡ place w.limit w.head k
    → x ≡ get_or xs i x → Some x ≡ slice_get (held xs s) k
some_at xs s w k i x e h p r =
    let n = length_front xs s w e in
    let b = spot_bound w k i (omega arith) (omega arith) p in
    sym (slice_get_read (held xs s) (length (held xs s)) k x refl (omega (arith, length_held xs s))
    (r ∙ sym (get_or-take s.limit xs i x (omega arith))
    ∙ ap (λ j. get_or (take s.limit xs) j x) p
    ∙ ap (λ m. get_or (take s.limit xs) (place m w.head k) x) (sym n)
    ∙ sym (get_or_around (take s.limit xs) w.head w.len k x (omega arith) (omega arith) h)
    ∙ ap (λ ys. get_or ys k x) (sym (held_within xs s w e))))
