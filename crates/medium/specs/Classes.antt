-- The letters of a class. Assumes nothing.
use Rattle.std.specs.Prelude.{ℕ, Bool}
use Rattle.medium.specs.declared.class.Class.{Class}
use Rattle.medium.specs.declared.class.Class.TheVariants.{Command, Answer}
use Rattle.medium.specs.Letters.{command, answer}
use Rattle.packet.specs.declared.letter.Letter.{Letter}
use Rattle.packet.specs.declared.letter.Letter.TheVariants.{Enq, Data, Ack, Reset}

abbrev pub letters : Class → ℕ → Bool
letters Command = command
letters Answer = answer

abbrev pub class_of : Letter → Class
class_of Enq = Command
class_of (Data n) = Command
class_of (Ack n) = Answer
class_of Reset = Answer
