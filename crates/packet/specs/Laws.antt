-- What holds of reading and writing, for each check kind from its facts alone. Assumes nothing.
use Rattle.std.specs.Prelude.{◌≡◌, ℕ, List, length, take}
use Rattle.packet.specs.Checks.{Altered}
use Rattle.packet.specs.Format.{Parts, parts, packet, reading, writing}
use Rattle.packet.specs.Refusals.{Answer, refused, gave}

-- a kind with c check bytes
module _ (c : ℕ) (check : List ℕ → List ℕ) where
  -- the writer makes the burst b from a letter and a field: it fills a buffer of just that length with b
  abbrev pub Makes : ℕ → List ℕ → List ℕ → Type 0
  Makes l f b = (writing c l f (length b) ≡ gave (length b)) × (packet check l f ≡ b)

  -- r, what reading b answers, gives a letter and a field exactly when the writer makes b from them
  abbrev pub ReadAsWritten : List ℕ → Answer Parts → Type 0
  ReadAsWritten b r = (l : ℕ) (f : List ℕ) → (r ≡ gave (parts l 2 f) → Makes l f b) × (Makes l f b → r ≡ gave (parts l 2 f))

  -- r, what reading b answers, is a refusal where b is a written packet altered in just one byte
  abbrev pub AlteredRefused : List ℕ → Answer Parts → Type 0
  AlteredRefused b r = (l : ℕ) (f p : List ℕ) → Makes l f p → Altered p b → (n : ℕ) × (r ≡ refused n)

  -- where r, what writing answers, is a length, that many bytes of the buffer read back as letter, place and field
  abbrev pub ReadsBack : ℕ → List ℕ → Answer ℕ → List ℕ → Type 0
  ReadsBack l f r out = (n : ℕ) → r ≡ gave n → reading c check (take n out) ≡ gave (parts l 2 f)
