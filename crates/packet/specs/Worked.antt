-- Worked packets, by the sum kind unless said otherwise. Assumes nothing.
use Rattle.std.specs.Prelude.{◌≡◌, ℕ, List, [], ◌∷◌}
use Rattle.packet.specs.Checks.{sum_check, xor_check}
use Rattle.packet.specs.Format.{Parts, parts, reading, writing, packet}
use Rattle.packet.specs.Refusals.{Answer, refused, gave}

abbrev sum_reads : List ℕ → Answer Parts
sum_reads b = reading 1 sum_check b

abbrev xor_reads : List ℕ → Answer Parts
xor_reads b = reading 1 xor_check b

abbrev OK : List ℕ
OK = 0x4f ∷ 0x4b ∷ []

abbrev pub Worked : Type 0
Worked =
    -- ENQ, and ENQ by xor
    (packet sum_check 0x45 [] ≡ 0x02 ∷ 0x45 ∷ 0x03 ∷ 0xc8 ∷ [])
    × (packet xor_check 0x45 [] ≡ 0x02 ∷ 0x45 ∷ 0x03 ∷ 0xc6 ∷ [])
    -- RESET
    × (packet sum_check 0x52 [] ≡ 0x02 ∷ 0x52 ∷ 0x03 ∷ 0xd5 ∷ [])
    -- DATA_0 "OK", and by xor
    × (packet sum_check 0x30 OK ≡ 0x02 ∷ 0x30 ∷ 0x4f ∷ 0x4b ∷ 0x03 ∷ 0xcd ∷ [])
    × (packet xor_check 0x30 OK ≡ 0x02 ∷ 0x30 ∷ 0x4f ∷ 0x4b ∷ 0x03 ∷ 0xb7 ∷ [])
    -- ACK_0 with credit 7
    × (packet sum_check 0x41 (0x37 ∷ []) ≡ 0x02 ∷ 0x41 ∷ 0x37 ∷ 0x03 ∷ 0xfb ∷ [])
    -- they are written, and read
    × (writing 1 0x30 OK 6 ≡ gave 6)
    × (sum_reads (0x02 ∷ 0x45 ∷ 0x03 ∷ 0xc8 ∷ []) ≡ gave (parts 0x45 2 []))
    × (xor_reads (0x02 ∷ 0x30 ∷ 0x4f ∷ 0x4b ∷ 0x03 ∷ 0xb7 ∷ []) ≡ gave (parts 0x30 2 OK))
    × (sum_reads (0x02 ∷ 0x41 ∷ 0x37 ∷ 0x03 ∷ 0xfb ∷ []) ≡ gave (parts 0x41 2 (0x37 ∷ [])))
    -- refusals
    × (sum_reads [] ≡ refused 1)
    × (sum_reads (0x02 ∷ 0x45 ∷ 0x03 ∷ 0xc9 ∷ []) ≡ refused 7)
    × (sum_reads (0x02 ∷ 0x58 ∷ 0x03 ∷ 0xdb ∷ []) ≡ refused 3)
    × (sum_reads (0x02 ∷ 0x30 ∷ 0x03 ∷ 0xb3 ∷ []) ≡ refused 4)
    × (sum_reads (0x02 ∷ 0x41 ∷ 0x39 ∷ 0x03 ∷ 0xfd ∷ []) ≡ refused 5)
    × (sum_reads (0x02 ∷ 0x45 ∷ 0x02 ∷ 0xc8 ∷ []) ≡ refused 6)
    × (writing 1 0x30 OK 5 ≡ refused 29)
