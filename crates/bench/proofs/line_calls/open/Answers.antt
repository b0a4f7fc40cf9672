use Rattle.std.proofs.Common.{◌∙◌}
use Rattle.std.proofs.lemmas.Result.{IfOk-weaker}
use Rattle.agreement.specs.declared.sides.Side.TheVariants.{West, East}
use Rattle.bench.specs.LineModels.{medium_of, opening_over}
use Rattle.bench.proofs.LineOpenings.{way_opened, ok_printed, ok_ends, err_printed, err_ends}
use Rattle.bench.proofs.line_calls.open.Goals as goal

pub returns-in-Ok-clause-printed : goal.returns-in-Ok-clause-printed
returns-in-Ok-clause-printed g c =
    let printed = ok_printed c.args.media.now.eastward c.open.new.eastward c.args.media.now.westward c.open.new.westward _ c.open.new.west_place _ c.open.new.east_place (opening_over c.args.west.now c.args.east.now c.args.media.now) c.in-Ok.field-0 (c.in-Ok.ensures {u = tt}).west (c.in-Ok.ensures {u = tt}).east in
    IfOk-weaker c.opened.result _ _ (λ s e. e ∙ printed) c.opened.ensures

pub returns-in-Ok-clause-ends : goal.returns-in-Ok-clause-ends
returns-in-Ok-clause-ends g c =
    ok_ends c.args.media.now.eastward c.open.new.eastward c.args.media.now.westward c.open.new.westward _ c.open.new.west_place _ c.open.new.east_place (opening_over c.args.west.now c.args.east.now c.args.media.now) c.in-Ok.field-0 (c.in-Ok.ensures {u = tt}).west (c.in-Ok.ensures {u = tt}).east

pub returns-in-Ok-clause-eastward : goal.returns-in-Ok-clause-eastward
returns-in-Ok-clause-eastward g c = way_opened West c.args.media.now.eastward c.open.new.eastward _ _ (opening_over c.args.west.now c.args.east.now c.args.media.now) c.open.result c.open.ensures.west

pub returns-in-Ok-clause-westward : goal.returns-in-Ok-clause-westward
returns-in-Ok-clause-westward g c = way_opened East c.args.media.now.westward c.open.new.westward _ _ (opening_over c.args.west.now c.args.east.now c.args.media.now) c.open.result c.open.ensures.east

pub returns-in-Err-clause-printed : goal.returns-in-Err-clause-printed
returns-in-Err-clause-printed g c =
    let printed = err_printed c.args.media.now.eastward c.open.new.eastward _ c.open.new.west_place (medium_of c.args.media.now.westward) (opening_over c.args.west.now c.args.east.now c.args.media.now) c.in-Err.why c.in-Err.ensures.west in
    IfOk-weaker c.refused.result _ _ (λ s e. e ∙ printed) c.refused.ensures

pub returns-in-Err-clause-ends : goal.returns-in-Err-clause-ends
returns-in-Err-clause-ends g c = err_ends c.args.media.now.eastward c.open.new.eastward _ c.open.new.west_place (opening_over c.args.west.now c.args.east.now c.args.media.now) c.in-Err.why c.in-Err.ensures.west

pub returns-in-Err-clause-eastward : goal.returns-in-Err-clause-eastward
returns-in-Err-clause-eastward g c = way_opened West c.args.media.now.eastward c.open.new.eastward _ _ (opening_over c.args.west.now c.args.east.now c.args.media.now) c.open.result c.open.ensures.west

pub returns-in-Err-clause-westward : goal.returns-in-Err-clause-westward
returns-in-Err-clause-westward g c = way_opened East c.args.media.now.westward c.open.new.westward _ _ (opening_over c.args.west.now c.args.east.now c.args.media.now) c.open.result c.open.ensures.east
