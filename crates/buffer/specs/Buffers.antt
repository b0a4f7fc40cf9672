-- What a buffer means.
use Rattle.std.specs.Prelude.{ℕ, List, take, bit_xor, slice_index, slice_set}
use Rattle.buffer.specs.declared.Buffer.{Buffer}

-- its bytes
abbrev pub contents : {N : ℕ} → Buffer N → List ℕ
contents b = take b.len b.memory

-- bytes of which the one at i has its lowest bit inverted
abbrev pub flipped : List ℕ → ℕ → List ℕ
flipped b i = slice_set b i (bit_xor (slice_index b i) 1)
