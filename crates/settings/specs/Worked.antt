-- Worked settings frames. The crate station asks for them. Assumes nothing.
use Rattle.std.specs.Prelude.{◌≡◌, ℕ, true, false, List, [], ◌∷◌}
use Rattle.packet.specs.Refusals.{refused, gave}
use Rattle.settings.specs.declared.values.Settings.{Settings}
use Rattle.settings.specs.Frame.{settings_of, change_of, frame_of}

abbrev values : ℕ → ℕ → ℕ → ℕ → Settings
values e d m r = record { enq_period = e; data_period = d; attempt_limit = m; receive_limit = r }

-- 2 and 3 seconds, 3 attempts, 8 deliveries
abbrev usual : List ℕ
usual = 0x01 ∷ 0x00 ∷ 0x06 ∷ 0x00 ∷ 0xc8 ∷ 0x01 ∷ 0x2c ∷ 0x03 ∷ 0x08 ∷ []

abbrev pub Worked : Type 0
Worked =
    (settings_of usual ≡ gave (values 200 300 3 8))
    × (frame_of (values 200 300 3 8) ≡ usual)
    -- the limits of each range pass
    × (settings_of (frame_of (values 10 6000 1 1)) ≡ gave (values 10 6000 1 1))
    × (settings_of (frame_of (values 6000 10 20 8)) ≡ gave (values 6000 10 20 8))
    -- each refusal
    × (settings_of [] ≡ refused 8)
    × (settings_of (0x02 ∷ 0x00 ∷ 0x06 ∷ 0x00 ∷ 0xc8 ∷ 0x01 ∷ 0x2c ∷ 0x03 ∷ 0x08 ∷ []) ≡ refused 9)
    × (settings_of (0x01 ∷ 0x00 ∷ 0x07 ∷ 0x00 ∷ 0xc8 ∷ 0x01 ∷ 0x2c ∷ 0x03 ∷ 0x08 ∷ []) ≡ refused 10)
    × (settings_of (frame_of (values 9 300 3 8)) ≡ refused 11)
    × (settings_of (frame_of (values 200 6001 3 8)) ≡ refused 11)
    × (settings_of (frame_of (values 200 300 0 8)) ≡ refused 12)
    × (settings_of (frame_of (values 200 300 21 8)) ≡ refused 12)
    × (settings_of (frame_of (values 200 300 3 0)) ≡ refused 13)
    × (settings_of (frame_of (values 200 300 3 9)) ≡ refused 13)
    × (change_of usual true 9 ≡ refused 14)
    × (change_of usual false 9 ≡ refused 15)
    × (change_of usual false 8 ≡ gave (values 200 300 3 8))
    -- of several faults the smallest number is told
    × (settings_of (frame_of (values 9 300 0 8)) ≡ refused 11)
