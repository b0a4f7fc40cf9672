-- Which submissions and collections are refused. Assumes nothing.
use Rattle.std.specs.Prelude.{ℕ, not, List, [], ◌∷◌, length, nat_le}
use Rattle.packet.specs.Letters.{between, each_between}
use Rattle.packet.specs.Refusals.{Answer, refused, gave, Rule, ◌⇒◌}

-- a message has 1 to 96 bytes, each from 20 to 7E
abbrev pub message_rules : List ℕ → List Rule
message_rules m = not (between 1 96 (length m)) ⇒ 16 ∷ not (each_between 0x20 0x7e m) ⇒ 17 ∷ []

-- of n send buffers in use
abbrev pub room_rules : ℕ → List Rule
room_rules n = nat_le 8 n ⇒ 19 ∷ []

-- what a collection tells
abbrev pub oldest : {A : Type 0} → List A → Answer A
oldest [] = refused 20
oldest (o ∷ os) = gave o
