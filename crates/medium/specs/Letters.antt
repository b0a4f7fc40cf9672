-- The two classes of operation letters, as bytes. Assumes nothing.
use Rattle.std.specs.Prelude.{ℕ, Bool, ◌||◌, ◌==◌}
use Rattle.packet.specs.Letters.{is_data, is_ack}

-- E, 0 and 1
abbrev pub command : ℕ → Bool
command l = l == 0x45 || is_data l

-- A, B and R
abbrev pub answer : ℕ → Bool
answer l = is_ack l || l == 0x52
