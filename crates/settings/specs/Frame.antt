-- The settings frame: nine bytes, and when one is refused. Assumes nothing.
use Rattle.std.specs.Prelude.{ℕ, ◌+◌, ◌*◌, ◌/◌, ◌%◌, ◌≤◌, Bool, not, ◌&&◌, List, [], ◌∷◌, ◌++◌, length, ◌==◌, nat_lt, slice_index}
use Rattle.packet.specs.Letters.{between}
use Rattle.packet.specs.Refusals.{Answer, refused, gave, Rule, ◌⇒◌, judged}
use Rattle.settings.specs.declared.values.Settings.{Settings}

-- the two bytes at i, the higher one first
abbrev pub word : List ℕ → ℕ → ℕ
word f i = 256 * slice_index f i + slice_index f (i + 1)

-- the four values of a frame: ENQ period, DATA period, attempt limit M, receive limit R
abbrev pub settings_in : List ℕ → Settings
settings_in f = record { enq_period = word f 3; data_period = word f 5; attempt_limit = slice_index f 7; receive_limit = slice_index f 8 }

abbrev pub frame_rules : List ℕ → List Rule
frame_rules f =
    not (length f == 9) ⇒ 8 ∷
    not (slice_index f 0 == 1) ⇒ 9 ∷
    not (word f 1 == 6) ⇒ 10 ∷
    not (between 10 6000 (word f 3) && between 10 6000 (word f 5)) ⇒ 11 ∷
    not (between 1 20 (slice_index f 7)) ⇒ 12 ∷
    not (between 1 8 (slice_index f 8)) ⇒ 13 ∷ []

-- what a frame gives
abbrev pub settings_of : List ℕ → Answer Settings
settings_of f = judged (frame_rules f) (settings_in f)

-- a change by a frame, while an answer is awaited or not, and with so many deliveries held
abbrev pub change_rules : List ℕ → Bool → ℕ → List Rule
change_rules f awaiting held = frame_rules f ++ (awaiting ⇒ 14 ∷ nat_lt (slice_index f 8) held ⇒ 15 ∷ [])

abbrev pub change_of : List ℕ → Bool → ℕ → Answer Settings
change_of f awaiting held = judged (change_rules f awaiting held) (settings_in f)

-- all four values change together, or none does
abbrev pub settings_after : Answer Settings → Settings → Settings
settings_after (refused n) s = s
settings_after (gave t) s = t

-- a change's answer, without the values
abbrev pub told : Answer Settings → Answer (Unit {0})
told (refused n) = refused n
told (gave s) = gave tt

pub record InRange (s : Settings) : Type 0 where
  pub enq_low : 10 ≤ s.enq_period
  pub enq_high : s.enq_period ≤ 6000
  pub data_low : 10 ≤ s.data_period
  pub data_high : s.data_period ≤ 6000
  pub attempts_low : 1 ≤ s.attempt_limit
  pub attempts_high : s.attempt_limit ≤ 20
  pub receive_low : 1 ≤ s.receive_limit
  pub receive_high : s.receive_limit ≤ 8

-- the one frame that has these values
abbrev pub frame_of : Settings → List ℕ
frame_of s = 1 ∷ 0 ∷ 6 ∷ s.enq_period / 256 ∷ s.enq_period % 256 ∷ s.data_period / 256 ∷ s.data_period % 256 ∷ s.attempt_limit ∷ s.receive_limit ∷ []
