-- What a burst record means. Assumes nothing.
use Rattle.std.specs.Prelude.{ℕ, List}
use Rattle.buffer.specs.Buffers.{contents}
use Rattle.medium.specs.declared.burst.Burst.{Burst}

-- the bytes of the burst
abbrev pub bytes_of : Burst → List ℕ
bytes_of b = contents b.bytes
