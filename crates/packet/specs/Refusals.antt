-- The number of each refusal, and answers that are a value or a refusal. Assumes nothing.
use Rattle.std.specs.Prelude.{ℕ, Bool, cond, List, [], ◌∷◌, Ok, Err, Result}
use Rattle.packet.specs.declared.refusal.Refusal.{Refusal}
use Rattle.packet.specs.declared.refusal.Refusal.TheVariants.{BurstLength, FirstByte, UnknownLetter, FieldLength, FieldByte, EndByte, CheckBytes, FrameLength, FrameVersion, FrameLengthField, Period, AttemptLimit, ReceiveLimit, AnswerAwaited, DeliveriesHeld, MessageLength, MessageByte, NotConnected, SendBuffersFull, NoOutcome, PlaceTooShort, DeliveryOut, NoDelivery, WrongSlip, UnknownSide, NothingUnderWay, StillUnderWay, MediumInUse, BufferTooShort}

abbrev pub number_of : Refusal → ℕ
number_of BurstLength = 1
number_of FirstByte = 2
number_of UnknownLetter = 3
number_of FieldLength = 4
number_of FieldByte = 5
number_of EndByte = 6
number_of CheckBytes = 7
number_of FrameLength = 8
number_of FrameVersion = 9
number_of FrameLengthField = 10
number_of Period = 11
number_of AttemptLimit = 12
number_of ReceiveLimit = 13
number_of AnswerAwaited = 14
number_of DeliveriesHeld = 15
number_of MessageLength = 16
number_of MessageByte = 17
number_of NotConnected = 18
number_of SendBuffersFull = 19
number_of NoOutcome = 20
number_of PlaceTooShort = 21
number_of DeliveryOut = 22
number_of NoDelivery = 23
number_of WrongSlip = 24
number_of UnknownSide = 25
number_of NothingUnderWay = 26
number_of StillUnderWay = 27
number_of MediumInUse = 28
number_of BufferTooShort = 29

-- What a call answers: a refusal's number, or a value. No Result of the code: definitions name a refusal by its number alone.
pub data Answer (A : Type 0) : Type 0 where
  refused : ℕ → Answer A
  gave : A → Answer A

-- a call's result as such an answer, the value as `f` sees it
abbrev pub answer : {X A : Type 0} → (X → A) → Result X Refusal → Answer A
answer f (Ok x) = gave (f x)
answer f (Err e) = refused (number_of e)

-- a condition and the number that refuses it
abbrev pub Rule : Type 0
Rule = Bool × ℕ

infix 90 ◌⇒◌
abbrev pub ◌⇒◌ : Bool → ℕ → Rule
b ⇒ n = (b, n)

-- the first rule whose condition holds refuses; where none does, the value is given
abbrev pub judged : {A : Type 0} → List Rule → A → Answer A
judged [] x = gave x
judged (r ∷ rs) x = cond r.0 (refused r.1) (judged rs x)
