-- What the receive buffers stand for: the messages held, oldest first. Assumes nothing.
use Rattle.std.specs.Prelude.{ℕ, ◌+◌, ◌%◌, List, [], ◌∷◌, replicate}
use Rattle.std.proofs.Common.{lit≤}
use Rattle.buffer.specs.Buffers.{contents}
use Rattle.buffer.specs.Turns.{turns}
use Rattle.buffer.specs.declared.Buffer.{Buffer}
use Rattle.secondary.specs.declared.deliveries.Deliveries.{Deliveries}

abbrev pub blank : Buffer 96
blank = record { memory = replicate 96 0; len = 0; fits = lit≤ tt }

abbrev pub messages : Deliveries → List (List ℕ)
messages t = turns contents blank t.buffers t.oldest 0 t.held

-- the buffer that the next message goes into
abbrev pub next_buffer : Deliveries → ℕ
next_buffer t = (t.oldest + t.held) % 8

abbrev pub oldest_of : List (List ℕ) → List ℕ
oldest_of [] = []
oldest_of (m ∷ ms) = m
