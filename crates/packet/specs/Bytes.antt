-- The byte of each letter. Assumes nothing.
use Rattle.std.specs.Prelude.{ℕ, Bool, cond}
use Rattle.packet.specs.declared.letter.Letter.{Letter}
use Rattle.packet.specs.declared.letter.Letter.TheVariants.{Enq, Data, Ack, Reset}
use Rattle.packet.specs.Numbers.{is_one}

-- DATA and ACK by their number, 1 where the truth value is true
abbrev pub data_byte : Bool → ℕ
data_byte n = cond n 0x31 0x30

abbrev pub ack_byte : Bool → ℕ
ack_byte n = cond n 0x42 0x41

abbrev pub byte_of : Letter → ℕ
byte_of Enq = 0x45
byte_of (Data n) = data_byte (is_one n)
byte_of (Ack n) = ack_byte (is_one n)
byte_of Reset = 0x52
