-- The operation letters, over bytes alone, and the field that goes with each. Assumes nothing.
use Rattle.std.specs.Prelude.{ℕ, Bool, true, cond, ◌&&◌, ◌||◌, List, [], ◌∷◌, ◌==◌, nat_le}

-- n lies from a to b, both included
abbrev pub between : ℕ → ℕ → ℕ → Bool
between a b n = nat_le a n && nat_le n b

-- DATA_0 is 0 and DATA_1 is 1; ACK_0 is A and ACK_1 is B; ENQ is E and RESET is R
abbrev pub is_data : ℕ → Bool
is_data l = l == 0x30 || l == 0x31

abbrev pub is_ack : ℕ → Bool
is_ack l = l == 0x41 || l == 0x42

abbrev pub is_bare : ℕ → Bool
is_bare l = l == 0x45 || l == 0x52

abbrev pub known : ℕ → Bool
known l = is_data l || (is_ack l || is_bare l)

-- a field of n bytes has the letter's length: a message, a credit byte or nothing
abbrev pub fits : ℕ → ℕ → Bool
fits l n = cond (is_data l) (between 1 96 n) (cond (is_ack l) (n == 1) (n == 0))

-- the least and the greatest byte of the letter's field
abbrev pub least : ℕ → ℕ
least l = cond (is_data l) 0x20 0x30

abbrev pub greatest : ℕ → ℕ
greatest l = cond (is_data l) 0x7e 0x38

abbrev pub each_between : ℕ → ℕ → List ℕ → Bool
each_between a b [] = true
each_between a b (x ∷ xs) = between a b x && each_between a b xs

abbrev pub allowed : ℕ → List ℕ → Bool
allowed l f = each_between (least l) (greatest l) f
