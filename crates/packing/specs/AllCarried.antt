-- Each burst of a packed medium has 1 to 104 bytes: the proof of the trait's law.
use Rattle.std.proofs.Common.{ℕ, zero, suc, ◌+◌, ◌*◌, Bool, cond, ◌&&◌, ltb, leb, List, [], ◌∷◌, length, take, drop, sym, subst, inl, inr, arith}
use Rattle.std.specs.List.{AllByRecursion}
use Rattle.std.proofs.lemmas.List.{length-take}
use Rattle.std.proofs.lemmas.Bool.{ltb-true, leb-true, and_parts, cases_Bool}
use Rattle.medium.specs.Bursts.{Carried}
use Rattle.packing.specs.declared.packed.PackedMedium.{PackedMedium}
use Rattle.packing.specs.Packed.{carries, bytes}
use Rattle.packing.specs.Rowed.{readable, unpacked_at, unpacked}

-- only bursts of 1 to 104 bytes are read
unpacked_carried_at : (n : ℕ) (xs : List ℕ) → AllByRecursion Carried (unpacked_at n xs)
unpacked_carried_at zero xs = tt
unpacked_carried_at (suc n) [] = tt
unpacked_carried_at (suc n) (h ∷ []) = tt
unpacked_carried_at (suc n) (h ∷ (l ∷ xs)) =
    elim (cases_Bool (readable (h * 256 + l) (length xs))) [
      | inl e ↦
          let p = and_parts (ltb 0 (h * 256 + l)) (leb (h * 256 + l) 104 && leb (h * 256 + l) (length xs)) e in
          let q = and_parts (leb (h * 256 + l) 104) (leb (h * 256 + l) (length xs)) p.1 in
          let a = ltb-true 0 (h * 256 + l) p.0 in
          let b = leb-true (h * 256 + l) 104 q.0 in
          let c = leb-true (h * 256 + l) (length xs) q.1 in
          let t = length-take (h * 256 + l) xs in
          subst (λ (s : Bool). AllByRecursion Carried (cond s (take (h * 256 + l) xs ∷ unpacked_at n (drop (h * 256 + l) xs)) [])) (sym e)
          ((omega arith, omega arith), unpacked_carried_at n (drop (h * 256 + l) xs))
      | inr e ↦ subst (λ (s : Bool). AllByRecursion Carried (cond s (take (h * 256 + l) xs ∷ unpacked_at n (drop (h * 256 + l) xs)) [])) (sym e) tt
    ]

pub unpacked_carried : (xs : List ℕ) → AllByRecursion Carried (unpacked xs)
unpacked_carried xs = unpacked_carried_at (length xs) xs

pub all_carried : (m : PackedMedium) → AllByRecursion Carried (carries m)
all_carried m = unpacked_carried (bytes m)
