-- What the code's answers of a line stand for. Assumes nothing.
use Rattle.std.specs.Prelude.{ℕ, List, [], ◌++◌, Ok, Err, Result, codes}
use Rattle.packet.specs.declared.refusal.Refusal.{Refusal}
use Rattle.answers.specs.Lines.{end}
use Rattle.end_answers.specs.Reports.{placed_burst}
use Rattle.station.specs.Reports.{told}
use Rattle.line.specs.declared.report.LineReport.{LineReport}
use Rattle.bench.specs.LineAnswers.{line_report}

-- a report, with its burst at the front of the place
abbrev pub placed_report : LineReport → List ℕ → List ℕ
placed_report r place = line_report (told r.end) (placed_burst (told r.end) place) r.offer

-- the burst that a call sent, from its place
abbrev pub burst_in : Result LineReport Refusal → List ℕ → List ℕ
burst_in (Ok r) place = placed_burst (told r.end) place
burst_in (Err e) place = []

-- both reports of an opening
abbrev pub opened_told : LineReport → List ℕ → LineReport → List ℕ → List ℕ
opened_told west west_place east east_place =
    codes "opened west " ++ (placed_report west west_place ++ (codes " east " ++ (placed_report east east_place ++ end)))
