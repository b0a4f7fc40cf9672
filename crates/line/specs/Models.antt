-- What a line of the code and its reports stand for.
use Rattle.std.specs.Prelude.{ℕ, List, take, None, Ok, Err, Option, Result}
use Rattle.std.specs.Option.{option_map}
use Rattle.packet.specs.Bytes.{byte_of}
use Rattle.packet.specs.declared.refusal.Refusal.{Refusal}
use Rattle.packet.specs.declared.checks.Check as check
use Rattle.packet.specs.Refusals.{Answer, answer}
use Rattle.primary.specs.declared.outcome.Outcome.{Outcome}
use Rattle.primary.specs.Outcomes.{outcome_number}
use Rattle.medium.specs.declared.offer.Offer.{Offer}
use Rattle.station.specs.Models.{model}
use Rattle.station.specs.Reports.{told}
use Rattle.line.specs.declared.report.LineReport.{LineReport}
use Rattle.line.specs.declared.opened.Line as code
use Rattle.agreement.specs.Line.{Burst, Line}
use Rattle.agreement.specs.Calls.{Said, reported, read, collected, adopted}

-- the line of two ends over two media with these bursts under way
abbrev pub line_of : {K : Type 0} {k : check.Ghosts K} → code.Line K k → List Burst → List Burst → Line
line_of l eastward westward = record { west_end = model l.west; east_end = model l.east; eastward = eastward; westward = westward }

abbrev pub report_said : LineReport → Said
report_said r = reported (option_map byte_of r.heard) (told r.end)

abbrev pub said : Result LineReport Refusal → Answer Said
said r = answer report_said r

-- the medium's answer, where a packet was offered
abbrev pub offer_told : Result LineReport Refusal → Option Offer
offer_told (Ok x) = x.offer
offer_told (Err e) = None

-- what the calls return that send nothing; a read-out returns the message's length, and the message at the place's front
abbrev pub read_told : Result ℕ Refusal → List ℕ → Answer Said
read_told r place = answer (λ n. read (take n place)) r

abbrev pub collect_told : Result Outcome Refusal → Answer Said
collect_told r = answer (λ o. collected (outcome_number o)) r

abbrev pub set_told : Result (Unit {0}) Refusal → Answer Said
set_told r = answer (λ u. adopted) r
