-- Laws of bursts in a row of bytes.
use Rattle.std.proofs.Common.{◌≡◌, ℕ, zero, suc, ◌+◌, ◌*◌, ◌/◌, ◌%◌, ◌<◌, ◌≤◌, Bool, true, false, cond, ◌⊎◌, List, [], ◌∷◌, ◌++◌, length, take, drop, sym, refl, ap, ◌∙◌, subst, inl, inr, append_assoc, arith}
use Rattle.std.specs.List.{AllByRecursion}
use Rattle.std.proofs.lemmas.List.{length-append, take_at, drop_at, append-nil}
use Rattle.std.proofs.lemmas.Bool.{lt-ltb, le-leb, cond-true, and_from}
use Rattle.std.proofs.lemmas.Nat.{div-add-mod'}
use Rattle.medium.specs.Bursts.{Carried}
use Rattle.packing.specs.AllCarried.{unpacked_carried}
use Rattle.packing.specs.Rowed.{framed, packed, readable, unpacked_at, unpacked, Packs}

readable_is : (k n : ℕ) → 0 < k → k ≤ 104 → k ≤ n → readable k n ≡ true
readable_is k n a b c = and_from _ _ (lt-ltb 0 k a) (and_from _ _ (le-leb k 104 b) (le-leb k n c))

-- reading what was packed gives the bursts back
unpacked_packed_at : (bs : List (List ℕ)) → AllByRecursion Carried bs → (n : ℕ) → length bs ≤ n → unpacked_at n (packed bs) ≡ bs
unpacked_packed_at [] a zero h = refl
unpacked_packed_at [] a (suc n) h = refl
unpacked_packed_at (b ∷ bs) a zero h = absurd (omega arith)
unpacked_packed_at (b ∷ bs) a (suc n) h =
    let k : length b / 256 * 256 + length b % 256 ≡ length b = div-add-mod' (length b) 256 in
    let l = length-append b (packed bs) in
    ap (λ i. cond (readable i (length (b ++ packed bs))) (take i (b ++ packed bs) ∷ unpacked_at n (drop i (b ++ packed bs))) []) k
    ∙ cond-true (readable (length b) (length (b ++ packed bs))) _ []
    (readable_is (length b) (length (b ++ packed bs)) a.0.0 a.0.1 (omega arith))
    ∙ ap (λ c. c ∷ unpacked_at n (drop (length b) (b ++ packed bs))) (take_at b (packed bs) (length b) refl)
    ∙ ap (λ c. b ∷ unpacked_at n c) (drop_at b (packed bs) (length b) refl)
    ∙ ap (λ c. b ∷ c) (unpacked_packed_at bs a.1 n (omega arith))

length_packed : (bs : List (List ℕ)) → length bs ≤ length (packed bs)
length_packed [] = omega arith
length_packed (b ∷ bs) = omega (arith, length-append b (packed bs), length_packed bs)

pub length_unpacked : (xs : List ℕ) → Packs xs → length (unpacked xs) ≤ length xs
length_unpacked xs p = omega (arith, length_packed (unpacked xs), ap length p)

pub unpacked_packed : (bs : List (List ℕ)) → AllByRecursion Carried bs → unpacked (packed bs) ≡ bs
unpacked_packed bs a = unpacked_packed_at bs a (length (packed bs)) (length_packed bs)

packed_push : (bs : List (List ℕ)) (b : List ℕ) → packed (bs ++ b ∷ []) ≡ packed bs ++ framed b
packed_push [] b = append-nil (framed b)
packed_push (c ∷ bs) b = ap (λ y. framed c ++ y) (packed_push bs b) ∙ sym (append_assoc (framed c) (packed bs) (framed b))

all_push : (bs : List (List ℕ)) (b : List ℕ) → AllByRecursion Carried bs → Carried b → AllByRecursion Carried (bs ++ b ∷ [])
all_push [] b a c = (c, tt)
all_push (x ∷ bs) b a c = (a.0, all_push bs b a.1 c)

-- one burst more at the end
unpacked_push : (xs : List ℕ) (b : List ℕ) → Packs xs → Carried b → unpacked (xs ++ framed b) ≡ unpacked xs ++ b ∷ []
unpacked_push xs b p c =
    ap (λ ys. unpacked (ys ++ framed b)) (sym p) ∙ ap unpacked (sym (packed_push (unpacked xs) b))
    ∙ unpacked_packed (unpacked xs ++ b ∷ []) (all_push (unpacked xs) b (unpacked_carried xs) c)

packs_push : (xs : List ℕ) (b : List ℕ) → Packs xs → Carried b → Packs (xs ++ framed b)
packs_push xs b p c =
    ap packed (unpacked_push xs b p c) ∙ packed_push (unpacked xs) b ∙ ap (λ ys. ys ++ framed b) p

pub packs_if : (xs ys b : List ℕ) (r : Bool) → Packs xs → Carried b → ys ≡ cond r (xs ++ framed b) xs → Packs ys
packs_if xs ys b true p c e = subst (λ (o : List ℕ). Packs o) (sym e) (packs_push xs b p c)
packs_if xs ys b false p c e = subst (λ (o : List ℕ). Packs o) (sym e) p

pub unpacked_if : (xs ys b : List ℕ) (r : Bool) → Packs xs → Carried b → ys ≡ cond r (xs ++ framed b) xs
    → unpacked ys ≡ cond r (unpacked xs ++ b ∷ []) (unpacked xs)
unpacked_if xs ys b true p c e = ap unpacked e ∙ unpacked_push xs b p c
unpacked_if xs ys b false p c e = ap unpacked e

-- a row of bursts is empty, or begins with one, behind which is such a row
record Front (xs : List ℕ) : Type 0 where
  pub burst : List ℕ
  pub others : List ℕ
  pub carried : Carried burst
  pub is : xs ≡ framed burst ++ others
  pub packs : Packs others
  pub reads : unpacked xs ≡ burst ∷ unpacked others

front_of : (xs : List ℕ) (bs : List (List ℕ)) → AllByRecursion Carried bs → packed bs ≡ xs → (xs ≡ []) ⊎ Front xs
front_of xs [] a e = inl (sym e)
front_of xs (b ∷ bs) a e = inr record {
  burst = b;
  others = packed bs;
  carried = a.0;
  is = sym e;
  packs = ap packed (unpacked_packed bs a.1);
  reads = ap unpacked (sym e) ∙ unpacked_packed (b ∷ bs) a ∙ ap (λ c. b ∷ c) (sym (unpacked_packed bs a.1));
}

front : (xs : List ℕ) → Packs xs → (xs ≡ []) ⊎ Front xs
front xs p = front_of xs (unpacked xs) (unpacked_carried xs) p

-- a row that is not empty holds a length of two bytes
pub two_bytes : (xs : List ℕ) → Packs xs → 0 < length xs → 1 < length xs
two_bytes xs p l =
    elim (front xs p) [
      | inl e ↦ absurd (omega (arith, ap length e))
      | inr f ↦ omega (arith, ap length f.is)
    ]

-- what a length that was read says of the bytes zs behind it
pub record Read (xs zs : List ℕ) (n : ℕ) : Type 0 where
  pub some : 0 < n
  pub few : n ≤ 104
  pub there : n ≤ length zs
  pub reads : unpacked xs ≡ take n zs ∷ unpacked (drop n zs)
  pub packs : Packs (drop n zs)

read_front : (xs zs : List ℕ) (h l n : ℕ) → xs ≡ h ∷ (l ∷ zs) → n ≡ h * 256 + l → Front xs → Read xs zs n
read_front xs zs h l n e k f =
    let x : h ∷ (l ∷ zs) ≡ length f.burst / 256 ∷ (length f.burst % 256 ∷ (f.burst ++ f.others)) = sym e ∙ f.is in
    let eh : h ≡ length f.burst / 256 = cc in
    let el : l ≡ length f.burst % 256 = cc in
    let ez : zs ≡ f.burst ++ f.others = cc in
    let m : n ≡ length f.burst = omega (arith, div-add-mod' (length f.burst) 256) in
    let len : length zs ≡ length f.burst + length f.others = ap length ez ∙ length-append f.burst f.others in
    let t : take n zs ≡ f.burst = ap (take n) ez ∙ take_at f.burst f.others n (sym m) in
    let d : drop n zs ≡ f.others = ap (drop n) ez ∙ drop_at f.burst f.others n (sym m) in
    record {
      some = omega (arith, f.carried.0);
      few = omega (arith, f.carried.1);
      there = omega arith;
      reads = f.reads ∙ ap (λ b. b ∷ unpacked f.others) (sym t) ∙ ap (λ o. take n zs ∷ unpacked o) (sym d);
      packs = subst (λ (o : List ℕ). Packs o) (sym d) f.packs;
    }

pub read : (xs zs : List ℕ) (h l n : ℕ) → Packs xs → xs ≡ h ∷ (l ∷ zs) → n ≡ h * 256 + l → Read xs zs n
read xs zs h l n p e k =
    elim (front xs p) [
      | inl z ↦ absurd (let u : ◌≡◌ {A = ℕ} 1 0 = let v : ◌≡◌ {A = List ℕ} (h ∷ (l ∷ zs)) [] = sym e ∙ z in cc in omega arith)
      | inr f ↦ read_front xs zs h l n e k f
    ]
