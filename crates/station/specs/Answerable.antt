-- Answers that can be sent. Assumes nothing.
use Rattle.std.specs.Prelude.{◌≤◌, Some, None, Option}
use Rattle.secondary.specs.declared.reply.Answer.{Answer as Reply}
use Rattle.secondary.specs.declared.reply.Answer.TheVariants.{Reset, Ack}

-- a credit is at most 8
abbrev pub Answerable : Option Reply → Type 0
Answerable None = Unit {0}
Answerable (Some Reset) = Unit {0}
Answerable (Some (Ack n credit)) = credit ≤ 8
