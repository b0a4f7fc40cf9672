-- Where DATA and ACK go, under either number. Assumes nothing.
use Rattle.std.proofs.Common.{◌≡◌, ℕ, ◌-◌, List, get_or, refl}
use Rattle.packet.specs.declared.letter.Letter.TheVariants.{Data, Ack}
use Rattle.packet.specs.declared.number.Number.{Number}
use Rattle.packet.specs.declared.number.Number.TheVariants.{Zero, One}
use Rattle.packet.specs.Bytes.{byte_of}
use Rattle.packet.specs.Format.{parts}
use Rattle.packet.specs.Numbers.{is_one}
use Rattle.primary.specs.Station.{ack}
use Rattle.station.specs.End.{End, data_heard, dispatched, hears}

pub data_goes : (e : End) (n : Number) (p : ℕ) (f : List ℕ) → dispatched e (parts (byte_of (Data n)) p f) ≡ data_heard e n f
data_goes e Zero p f = refl
data_goes e One p f = refl

pub ack_goes : (e : End) (n : Number) (p : ℕ) (f : List ℕ) → dispatched e (parts (byte_of (Ack n)) p f) ≡ hears e (ack (is_one n) (get_or f 0 0 - 0x30))
ack_goes e Zero p f = refl
ack_goes e One p f = refl
