-- Worked answers of a secondary station on line 0. The crate station asks for them. Assumes nothing.
use Rattle.std.specs.Prelude.{◌≡◌, [], ◌∷◌, Some, None}
use Rattle.packet.specs.Refusals.{refused, gave}
use Rattle.packet.specs.declared.number.Number.TheVariants.{Zero, One}
use Rattle.secondary.specs.declared.reply.Answer.TheVariants.{Reset, Ack}
use Rattle.secondary.specs.Laws.{Data, Take, Give, after_all}
use Rattle.secondary.specs.Station.{Message, Station, opened, enq_answer, data_answer, take_answer, give_answer}

abbrev OK : Message
OK = 0x4f ∷ 0x4b ∷ []

abbrev fresh : Station
fresh = opened 0

abbrev one_held : Station
one_held = after_all (Data 8 One OK ∷ []) fresh

abbrev one_out : Station
one_out = after_all (Data 8 One OK ∷ Take 96 ∷ []) fresh

abbrev pub Worked : Type 0
Worked =
    -- at opening ENQ gets RESET, and DATA_1 under R = 8 gets ACK_1 with credit 7
    (enq_answer 8 fresh ≡ Some Reset)
    × (data_answer 8 One OK fresh ≡ gave (Some (Ack One 7)))
    -- ENQ then gets the ACK again, with the credit of now
    × (enq_answer 8 one_held ≡ Some (Ack One 7))
    × (enq_answer 3 one_held ≡ Some (Ack One 2))
    -- R = 1 and one delivery held: neither command gets an answer
    × (enq_answer 1 one_held ≡ None)
    × (data_answer 1 Zero OK one_held ≡ gave None)
    -- the same DATA twice is stored twice
    × ((after_all (Data 8 One OK ∷ Data 8 One OK ∷ []) fresh).held ≡ OK ∷ OK ∷ [])
    -- a message of no bytes is refused
    × (data_answer 8 One [] fresh ≡ refused 16)
    -- take, and the refusals of take and give back
    × (take_answer 96 one_held ≡ gave (2, 0, 0))
    × (take_answer 95 one_out ≡ refused 21)
    × (take_answer 96 one_out ≡ refused 22)
    × (take_answer 96 fresh ≡ refused 23)
    × (give_answer 0 0 one_out ≡ gave tt)
    × (give_answer 1 0 one_out ≡ refused 24)
    × (give_answer 0 1 one_out ≡ refused 24)
    × (give_answer 0 0 one_held ≡ refused 24)
    -- the buffers go in turn: the second delivery lies in buffer 1
    × (take_answer 96 (after_all (Data 1 One OK ∷ Take 96 ∷ Give 0 0 ∷ Data 1 Zero OK ∷ []) fresh) ≡ gave (2, 0, 1))
