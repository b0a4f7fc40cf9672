-- What is printed for the calls on a line. Assumes nothing.
use Rattle.std.specs.Prelude.{ℕ, List, ◌++◌, length, Option, codes, decimal}
use Rattle.notation.specs.Hex.{hex}
use Rattle.packet.specs.Refusals.{Answer, refused, gave}
use Rattle.medium.specs.declared.offer.Offer.{Offer}
use Rattle.medium.specs.Offered.{name_of}
use Rattle.station.specs.End.{End, burst}
use Rattle.station.specs.Reports.{Told}
use Rattle.answers.specs.Lines.{end, refusal, text_or_none}
use Rattle.end_answers.specs.Reports.{sent_text, rest_text, outcome_line}
use Rattle.end_answers.specs.States.{state_line}
use Rattle.agreement.specs.declared.sides.Side.{Side}
use Rattle.agreement.specs.declared.sides.Side.TheVariants.{West, East}
use Rattle.agreement.specs.Line.{side_answer}
use Rattle.agreement.specs.Calls.{Call, Submit, Arrive, Expire, ReadOut, Collect, Set, Said, reported, read, collected, adopted}
use Rattle.script.specs.Line as lines
use Rattle.bench.specs.Joined.{Open, offer_of, medium_out, did, sends}

-- `sent=E burst=024503C8 offer=whole timer=enq:200 outcomes=0,0,0`, with the burst that was sent
abbrev pub line_report : Told → List ℕ → Option Offer → List ℕ
line_report t b o = sent_text t b ++ (codes " offer=" ++ (text_or_none name_of o ++ (codes " " ++ rest_text t)))

-- `length=2 message=4F4B`
abbrev pub message_line : List ℕ → List ℕ
message_line m = codes "length=" ++ (decimal (length m) ++ (codes " message=" ++ (hex m ++ end)))

-- what a call answers, with the burst that it sent and the medium's answer
abbrev pub said_line : List ℕ → Option Offer → Answer Said → List ℕ
said_line b o (refused n) = refusal n
said_line b o (gave (reported letter t)) = line_report t b o ++ end
said_line b o (gave (read m)) = message_line m
said_line b o (gave (collected n)) = outcome_line (gave n)
said_line b o (gave adopted) = codes "set" ++ end

-- the state of a side, as of an end
abbrev pub state_at : Answer Side → End → End → List ℕ
state_at (refused n) w e = refusal n
state_at (gave West) w e = state_line w
state_at (gave East) w e = state_line e

-- by a kind with c check bytes
module _ (c : ℕ) (check : List ℕ → List ℕ) where
  abbrev pub printed_call : Answer Side → Call → Open → List ℕ
  printed_call (refused n) k o = refusal n
  printed_call (gave s) k o = said_line (burst check (did c check s k o).sent) (offer_of (sends c check s k o) (medium_out s o)) (did c check s k o).answer

  abbrev pub printed_asked : ℕ → lines.Call → Open → List ℕ
  printed_asked n (lines.submit m) o = printed_call (side_answer n) (Submit m) o
  printed_asked n lines.timeout o = printed_call (side_answer n) Expire o
  printed_asked n lines.arrive o = printed_call (side_answer n) Arrive o
  printed_asked n (lines.read size) o = printed_call (side_answer n) (ReadOut size) o
  printed_asked n lines.collect o = printed_call (side_answer n) Collect o
  printed_asked n (lines.settings f) o = printed_call (side_answer n) (Set f) o
  printed_asked n lines.state o = state_at (side_answer n) o.west o.east
