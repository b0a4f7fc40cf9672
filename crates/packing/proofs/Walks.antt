-- Steps that empty and read a row of bytes.
use Rattle.std.proofs.Common.{◌≡◌, ℕ, ◌+◌, ◌*◌, ◌<◌, ◌≤◌, List, [], ◌∷◌, ◌++◌, length, get_or, take, drop, set, Some, Option, unwrap_or, sym, ap, ◌∙◌, subst, append_assoc, arith}
use Rattle.std.specs.List.{slice_get}
use Rattle.std.proofs.lemmas.List.{take_more, drop_more, drop-drop, length-drop, set_at, length-take-le, get_or-take, get_or-drop}
use Rattle.std.proofs.lemmas.Option.{unwrap_or-slice_get}
use Rattle.packing.specs.Rowed.{unpacked, Packs, lying, Lies}
use Rattle.packing.proofs.Rowed.{two_bytes, read}

-- a list by the first element that was taken out and what is left
pub taken : (xs ys : List ℕ) (x : ℕ) → Some x ≡ slice_get xs 0 → ys ≡ drop 1 xs → xs ≡ x ∷ ys
taken [] ys x e q = absurd (let z : ◌≡◌ {A = ℕ} 0 1 = cc in omega arith)
taken (y ∷ xs) ys x e q = let i : x ≡ y = cc in ap (λ z. z ∷ xs) (sym i) ∙ ap (λ zs. x ∷ zs) (sym q)

-- one byte taken out, and written behind those before it
pub take_step : (xs ys zs : List ℕ) (i b : ℕ) → i < length xs → ys ≡ drop i xs → zs ≡ drop 1 ys → zs ≡ drop (i + 1) xs
take_step xs ys zs i b h e q = q ∙ ap (drop 1) e ∙ drop-drop 1 i xs

pub write_step : (xs p ys : List ℕ) (i b : ℕ) → i < length xs → i < length p → ys ≡ drop i xs → Some b ≡ slice_get ys 0
    → set (take i xs ++ drop i p) i b ≡ take (i + 1) xs ++ drop (i + 1) p
write_step xs p ys i b h l e s =
    let f = drop_more xs i 0 h in
    let v : Some b ≡ Some (get_or xs i 0) = s ∙ ap (λ zs. slice_get zs 0) (e ∙ f) in
    let w : b ≡ get_or xs i 0 = cc in
    ap (λ z. set (take i xs ++ z) i b) (drop_more p i 0 l)
    ∙ set_at (take i xs) (get_or p i 0) (drop (i + 1) p) b i (length-take-le i xs (omega arith))
    ∙ ap (λ y. take i xs ++ y ∷ drop (i + 1) p) w
    ∙ sym (append_assoc (take i xs) (get_or xs i 0 ∷ []) (drop (i + 1) p))
    ∙ ap (λ z. z ++ drop (i + 1) p) (sym (take_more xs i 0 h))

-- a byte that was looked at
pub looked : (xs : List ℕ) (k x : ℕ) (r : Option ℕ) → r ≡ slice_get xs k → r ≡ Some x → x ≡ get_or xs k 0
looked xs k x r e q = ap (λ o. unwrap_or o 0) (sym q ∙ e) ∙ unwrap_or-slice_get xs k 0

pub lies : (xs : List ℕ) (at h l n : ℕ) → Packs (drop at xs) → at < length xs → h ≡ get_or xs at 0 → l ≡ get_or xs (at + 1) 0 → n ≡ h * 256 + l → Lies xs at n
lies xs at h l n p lt eh el en =
    let d = length-drop at xs in
    let two : at + 1 < length xs = omega (arith, two_bytes (drop at xs) p (omega arith)) in
    let s : at + 1 + 1 ≡ at + 2 = omega arith in
    let a : drop at xs ≡ h ∷ (l ∷ drop (at + 2) xs) =
    drop_more xs at 0 lt ∙ ap (λ x. x ∷ drop (at + 1) xs) (sym eh)
    ∙ ap (λ t. h ∷ t) (drop_more xs (at + 1) 0 two ∙ ap (λ x. x ∷ drop (at + 1 + 1) xs) (sym el) ∙ ap (λ i. l ∷ drop i xs) s) in
    let r = read (drop at xs) (drop (at + 2) xs) h l n p a en in
    let m = length-drop (at + 2) xs in
    let j : at + 2 + n ≡ at + (2 + n) = omega arith in
    let q : drop n (drop (at + 2) xs) ≡ drop (at + (2 + n)) xs = drop-drop n (at + 2) xs ∙ ap (λ i. drop i xs) j in
    record {
      some = r.some;
      few = r.few;
      there = omega (arith, r.there);
      packs = subst (λ (o : List ℕ). Packs o) q r.packs;
      reads = r.reads ∙ ap (λ o. lying xs at n ∷ unpacked o) q;
    }

-- the second byte of a burst of two bytes or more
pub letter_long : (xs : List ℕ) (at n x : ℕ) → 1 < n → x ≡ get_or xs (at + 3) 0 → x ≡ get_or (lying xs at n) 1 0
letter_long xs at n x h e =
    let s : at + 3 ≡ at + 2 + 1 = omega arith in
    e ∙ ap (λ i. get_or xs i 0) s ∙ sym (get_or-take n (drop (at + 2) xs) 1 0 h ∙ get_or-drop (at + 2) xs 1 0)

-- two bytes taken out
pub taken_two : (xs ys zs : List ℕ) (h l : ℕ) → Some h ≡ slice_get xs 0 → ys ≡ drop 1 xs → Some l ≡ slice_get ys 0 → zs ≡ drop 1 ys → xs ≡ h ∷ (l ∷ zs)
taken_two xs ys zs h l eh ey el ez = taken xs ys h eh ey ∙ ap (λ t. h ∷ t) (taken ys zs l el ez)

-- a burst that was taken out: two bytes for its length, and as many as a part of the place that it fits has
pub burst_taken : (xs ys zs rs p : List ℕ) (h l n : ℕ) → Packs xs → 104 ≤ length p → Some h ≡ slice_get xs 0 → ys ≡ drop 1 xs → Some l ≡ slice_get ys 0 → zs ≡ drop 1 ys
    → n ≡ h * 256 + l → rs ≡ drop (length (take n p)) zs → Packs rs × (unpacked rs ≡ drop 1 (unpacked xs))
burst_taken xs ys zs rs p h l n k room eh ey el ez en er =
    let r = read xs zs h l n k (taken_two xs ys zs h l eh ey el ez) en in
    let e : rs ≡ drop n zs = er ∙ ap (λ i. drop i zs) (length-take-le n p (omega (arith, r.few))) in
    (subst (λ (o : List ℕ). Packs o) (sym e) r.packs, ap unpacked e ∙ sym (ap (drop 1) r.reads))
