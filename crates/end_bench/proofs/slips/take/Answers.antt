use Rattle.std.proofs.Common.{sym, ap, ◌∙◌, arith}
use Rattle.std.proofs.lemmas.Result.{IfOk-weaker}
use Rattle.std.proofs.lemmas.Bool.{cond-false}
use Rattle.station.specs.Models.{model}
use Rattle.end_bench.specs.Calls.{taken}
use Rattle.end_bench.specs.Fair.{kept}
use Rattle.end_bench.proofs.Takings.{fits, taken_line}
use Rattle.end_bench.proofs.slips.take.Goals as goal

pub slice_bounds-taken-end : goal.slice_bounds-taken-end
slice_bounds-taken-end g c =
    omega (arith, fits (model c.args.end.now).secondary c.in-Ok.length c.in-Ok.delivery.line c.in-Ok.delivery.buffer c.args.place.now c.take.new.place c.in-Ok.ensures.value c.in-Ok.ensures.copied)

pub returns-in-Ok : goal.returns-in-Ok
returns-in-Ok g c =
    let told = c.in-Ok.ensures in
    let free = sym c.bars_taking.ensures ∙ c.if-bars_taking.false in
    let line = taken_line (model c.args.end.now).secondary c.in-Ok.length c.in-Ok.delivery.line c.in-Ok.delivery.buffer c.args.place.now c.take.new.place told.value told.copied c.line-line.result c.buffer-buffer.result c.line-line.ensures c.buffer-buffer.ensures in
    record {
      printed = IfOk-weaker c.taken.result _ _ (λ s e. e ∙ line ∙ sym (cond-false _ _ _ free)) c.taken.ensures;
      after = told.after ∙ sym (cond-false _ _ _ free);
      slip = ap kept c.keep.ensures ∙ ap (λ a. taken a (kept c.args.slip.now)) told.value ∙ sym (cond-false _ _ _ free);
    }
