-- From what the opening of a line promises to what the workbench says of it. Assumes nothing.
use Rattle.std.proofs.Common.{◌≡◌, ℕ, List, [], ◌++◌, length, drop, Some, None, Ok, Err, Result, codes, refl, sym, ap, ◌∙◌}
use Rattle.packet.specs.declared.checks.Check as check
use Rattle.packet.specs.declared.refusal.Refusal.{Refusal}
use Rattle.packet.specs.Refusals.{Answer, refused, gave, number_of}
use Rattle.packet.proofs.Judging.{never}
use Rattle.medium_script.specs.declared.spec.Spec.{Spec}
use Rattle.named_media.specs.Chosen.{carrier, memory}
use Rattle.named_media.specs.Media.{begun}
use Rattle.named_media.specs.declared.chosen.ChosenMedium.{ChosenMedium}
use Rattle.station.specs.End.{End, Done, burst}
use Rattle.station.specs.Reports.{telling}
use Rattle.answers.specs.Lines.{end, refusal}
use Rattle.end_answers.specs.Reports.{placed_burst}
use Rattle.end_answers.proofs.Placed.{placed_back}
use Rattle.agreement.specs.declared.sides.Side.{Side}
use Rattle.agreement.specs.declared.sides.Side.TheVariants.{West, East}
use Rattle.agreement.specs.Calls.{burst_of}
use Rattle.agreement.specs.Opening.{done_at, opening, sent_at_opening}
use Rattle.line.specs.declared.report.Opened.{Opened}
use Rattle.line.specs.Opened.{SideOpened, report_at, offer_at}
use Rattle.bench.specs.Joined.{Medium, passed, offer_of}
use Rattle.bench.specs.LineAnswers.{line_report}
use Rattle.bench.specs.LineModels.{medium_of, ends_of, opening_over}
use Rattle.bench.specs.LineRuns.{begun_medium, opening_line, ends_opened}
use Rattle.bench.specs.declared.joined.LineMedia.{LineMedia}
use Rattle.bench.specs.LineTold.{placed_report, opened_told}
use Rattle.bench.proofs.LineSteps.{ghosts, passed_on, offer_is, same_told}

same_number : {A : Type 0} {n m : ℕ} → ◌≡◌ {A = Answer A} (refused n) (refused m) → n ≡ m
same_number e = cc

same_end : {x y : End} → gave x ≡ gave y → x ≡ y
same_end e = cc

-- at one side
module _ {K : Type 0} {k : check.Ghosts K} (s : Side) (out out' : ChosenMedium) (place place' : List ℕ) where
  pub way_opened : (a : Answer (Done × Done)) (r : Result (Opened K k) Refusal) → SideOpened k ghosts s a r out out' place place'
      → medium_of out' ≡ passed (burst_of k.meaning (sent_at_opening s a)) (medium_of out)
  way_opened a r h = passed_on _ (offer_at s r) out out' h.once

  report_opened : (d : Done × Done) (x : Opened K k) → SideOpened k ghosts s (gave d) (Ok x) out out' place place'
      → placed_report (report_at s x) place' ≡ line_report (telling k.meaning (done_at s d)) (burst k.meaning (done_at s d).sent) (offer_of (burst_of k.meaning (done_at s d).sent) (medium_of out))
  report_opened d x h =
      let t = same_told h.told in
      let b = (λ i. placed_burst (t i) (h.placed i)) ∙ placed_back k.meaning (done_at s d) (drop (length (burst k.meaning (done_at s d).sent)) place) in
      λ i. line_report (t i) (b i) (offer_is _ (report_at s x).offer out out' h.once i)

-- at both
module _ {K : Type 0} {k : check.Ghosts K} (e e' w w' : ChosenMedium) (pw pw' pe pe' : List ℕ) where
  pub ok_printed : (a : Answer (Done × Done)) (x : Opened K k) → SideOpened k ghosts West a (Ok x) e e' pw pw' → SideOpened k ghosts East a (Ok x) w w' pe pe'
      → opened_told x.west pw' x.east pe' ≡ opening_line k.meaning a (medium_of e) (medium_of w)
  ok_printed (refused n) x h i = never n _ (sym h.told)
  ok_printed (gave d) x h i =
      let west = report_opened West e e' pw pw' d x h in
      let east = report_opened East w w' pe pe' d x i in
      λ j. codes "opened west " ++ (west j ++ (codes " east " ++ (east j ++ end)))

  pub ok_ends : (a : Answer (Done × Done)) (x : Opened K k) → SideOpened k ghosts West a (Ok x) e e' pw pw' → SideOpened k ghosts East a (Ok x) w w' pe pe'
      → Some (ends_of x.line) ≡ ends_opened a
  ok_ends (refused n) x h i = never n _ (sym h.told)
  ok_ends (gave d) x h i = λ j. Some (same_end h.made j, same_end i.made j)

-- a refusal, as told at west
module _ {K : Type 0} {k : check.Ghosts K} (e e' : ChosenMedium) (place place' : List ℕ) where
  pub err_printed : (westward : Medium) (a : Answer (Done × Done)) (why : Refusal) → SideOpened {K = K} k ghosts West a (Err why) e e' place place' → refusal (number_of why) ≡ opening_line k.meaning a (medium_of e) westward
  err_printed westward (refused n) why h = ap refusal (same_number h.told)
  err_printed westward (gave d) why h = never _ _ h.told

  pub err_ends : (a : Answer (Done × Done)) (why : Refusal) → SideOpened {K = K} k ghosts West a (Err why) e e' place place' → None ≡ ends_opened a
  err_ends (refused n) why h = refl
  err_ends (gave d) why h = never _ _ h.told

-- media that were begun anew
pub begun_is : (s : Spec) (m m' : ChosenMedium) → carrier m' ≡ begun s (memory m) → memory m' ≡ memory m → medium_of m' ≡ begun_medium s (medium_of m)
begun_is s m m' c k = λ i. record { carrier = c i; memory = k i }

module _ (check : List ℕ → List ℕ) (w e : List ℕ) (media : LineMedia) (s t : Spec) (x y : Medium) (p : medium_of media.eastward ≡ begun_medium s x) (q : medium_of media.westward ≡ begun_medium t y) where
  pub opening_begun : opening_over w e media ≡ opening w e [] []
  opening_begun = λ i. opening w e (p i).carrier.bursts (q i).carrier.bursts

  pub printed_begun : opening_line check (opening_over w e media) (medium_of media.eastward) (medium_of media.westward) ≡ opening_line check (opening w e [] []) (begun_medium s x) (begun_medium t y)
  printed_begun = λ i. opening_line check (opening_begun i) (p i) (q i)

  pub passed_east : passed (burst_of check (sent_at_opening West (opening_over w e media))) (medium_of media.eastward) ≡ passed (burst_of check (sent_at_opening West (opening w e [] []))) (begun_medium s x)
  passed_east = λ i. passed (burst_of check (sent_at_opening West (opening_begun i))) (p i)

  pub passed_west : passed (burst_of check (sent_at_opening East (opening_over w e media))) (medium_of media.westward) ≡ passed (burst_of check (sent_at_opening East (opening w e [] []))) (begun_medium t y)
  passed_west = λ i. passed (burst_of check (sent_at_opening East (opening_begun i))) (q i)
