-- The state of an end, in print. Assumes nothing.
use Rattle.std.specs.Prelude.{ℕ, Bool, cond, List, ◌++◌, length, Some, None, codes, decimal, Option}
use Rattle.packet.specs.Numbers.{digit_of}
use Rattle.packet.specs.declared.number.Number.{Number}
use Rattle.packet.specs.declared.number.Number.TheVariants.{Zero, One}
use Rattle.primary.specs.Model.{state_of}
use Rattle.primary.specs.Names as names
use Rattle.primary.specs.Station.{Station, Phase, unsettled_in}
use Rattle.primary.specs.declared.station.Status.{Status}
use Rattle.secondary.specs.Station as secondary
use Rattle.settings.specs.Printed.{text}
use Rattle.station.specs.End.{End}
use Rattle.station.specs.declared.report.Holding.{Holding}
use Rattle.answers.specs.Lines.{end, text_or_none}

abbrev pub state_text : Phase → List ℕ
state_text p = names.state_text (state_of p)

abbrev pub number_digit : Bool → ℕ
number_digit n = cond n 1 0

-- the letter of the last answer
abbrev pub last_text : Option Number → List ℕ
last_text None = codes "R"
last_text (Some Zero) = codes "A"
last_text (Some One) = codes "B"

-- the number of the buffer that is out
abbrev pub out_text : Option ℕ → List ℕ
out_text out = text_or_none decimal out

-- `state=Off number=1 attempts=1 credit=9`
abbrev pub sender : Station → List ℕ
sender p =
    codes "state=" ++ (state_text p.phase ++ (codes " number=" ++ (decimal (number_digit p.number) ++ (codes " attempts=" ++ (decimal p.attempts ++ (codes " credit=" ++ decimal p.credit))))))

abbrev pub status_text : Status → List ℕ
status_text s =
    codes "state=" ++ (names.state_text s.state ++ (codes " number=" ++ (decimal (digit_of s.number) ++ (codes " attempts=" ++ (decimal s.attempts ++ (codes " credit=" ++ decimal s.credit))))))

-- `last=R held=0 out=none`
abbrev pub holding_text : Holding → List ℕ
holding_text h = codes "last=" ++ (last_text h.last_answer ++ (codes " held=" ++ (decimal h.held ++ (codes " out=" ++ out_text h.buffer_out))))

abbrev pub receiver : secondary.Station → List ℕ
receiver s = holding_text (record { last_answer = s.last; held = length s.held; buffer_out = secondary.buffer_out s })

-- both, with the settings, and with how many messages have no outcome and how many outcomes are not collected
abbrev pub state_line : End → List ℕ
state_line e =
    sender e.primary ++ (codes " " ++ (text e.settings ++ (codes " " ++ (receiver e.secondary ++ (codes " sending=" ++ (decimal (length (unsettled_in e.primary.phase)) ++ (codes " outcomes=" ++ (decimal (length e.primary.outcomes) ++ end))))))))
