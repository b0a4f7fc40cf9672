use Rattle.std.proofs.Common.{◌≡◌, ap, ◌∙◌, rules}
use Rattle.std.specs.Option.{option_map}
use Rattle.script_words.specs.declared.words.Kind.TheVariants as kind
use Rattle.std.proofs.lemmas.Result.{IfOk-weaker}
use Rattle.packet.specs.Checks.{sum_check, xor_check}
use Rattle.bench.specs.LineModels.{medium_of, ends_of, kind_and_ends}
use Rattle.bench.specs.LineRuns.{of_kind, ends_opened}
use Rattle.bench.specs.declared.joined.LineMedia.{LineMedia}
use Rattle.bench.proofs.LineOpenings.{begun_is, opening_begun, printed_begun, passed_east, passed_west}
use Rattle.bench.proofs.joined.running.open.Goals as goal

pub returns-in-Sum-clause-printed : goal.returns-in-Sum-clause-printed
returns-in-Sum-clause-printed c =
    let j = c.args.joined.now.media in
    let p = begun_is c.args.eastward j.eastward _ c.restart.ensures.carrier c.restart.ensures.memory in
    let q = begun_is c.args.westward j.westward _ c.restart-2.ensures.carrier c.restart-2.ensures.memory in
    let printed = printed_begun sum_check c.args.west.now c.args.east.now (record { eastward = c.restart.new.self; westward = c.restart-2.new.self }) c.args.eastward c.args.westward (medium_of j.eastward) (medium_of j.westward) p q in
    rw c.in-Sum.is (IfOk-weaker c.open-line.result.1 _ _ (λ s e. e ∙ printed) c.open-line.ensures.printed)

pub returns-in-Sum-clause-after : goal.returns-in-Sum-clause-after
returns-in-Sum-clause-after c =
    let j = c.args.joined.now.media in
    let media : LineMedia = record { eastward = c.restart.new.self; westward = c.restart-2.new.self } in
    let p = begun_is c.args.eastward j.eastward _ c.restart.ensures.carrier c.restart.ensures.memory in
    let q = begun_is c.args.westward j.westward _ c.restart-2.ensures.carrier c.restart-2.ensures.memory in
    let begun = opening_begun sum_check c.args.west.now c.args.east.now media c.args.eastward c.args.westward (medium_of j.eastward) (medium_of j.westward) p q in
    let east = passed_east sum_check c.args.west.now c.args.east.now media c.args.eastward c.args.westward (medium_of j.eastward) (medium_of j.westward) p q in
    let west = passed_west sum_check c.args.west.now c.args.east.now media c.args.eastward c.args.westward (medium_of j.eastward) (medium_of j.westward) p q in
    let of : option_map kind_and_ends c.map-joined.result ≡ of_kind kind.Sum (option_map ends_of c.open-line.result.0) = search rules in
    let ends = of ∙ ap (of_kind kind.Sum) (c.open-line.ensures.ends ∙ ap ends_opened begun) in
    rw c.in-Sum.is (λ i. record { ends = ends i; eastward = (c.open-line.ensures.eastward ∙ east) i; westward = (c.open-line.ensures.westward ∙ west) i })

pub returns-in-Xor-clause-printed : goal.returns-in-Xor-clause-printed
returns-in-Xor-clause-printed c =
    let j = c.args.joined.now.media in
    let p = begun_is c.args.eastward j.eastward _ c.restart.ensures.carrier c.restart.ensures.memory in
    let q = begun_is c.args.westward j.westward _ c.restart-2.ensures.carrier c.restart-2.ensures.memory in
    let printed = printed_begun xor_check c.args.west.now c.args.east.now (record { eastward = c.restart.new.self; westward = c.restart-2.new.self }) c.args.eastward c.args.westward (medium_of j.eastward) (medium_of j.westward) p q in
    rw c.in-Xor.is (IfOk-weaker c.open-line-in-Xor.result.1 _ _ (λ s e. e ∙ printed) c.open-line-in-Xor.ensures.printed)

pub returns-in-Xor-clause-after : goal.returns-in-Xor-clause-after
returns-in-Xor-clause-after c =
    let j = c.args.joined.now.media in
    let media : LineMedia = record { eastward = c.restart.new.self; westward = c.restart-2.new.self } in
    let p = begun_is c.args.eastward j.eastward _ c.restart.ensures.carrier c.restart.ensures.memory in
    let q = begun_is c.args.westward j.westward _ c.restart-2.ensures.carrier c.restart-2.ensures.memory in
    let begun = opening_begun xor_check c.args.west.now c.args.east.now media c.args.eastward c.args.westward (medium_of j.eastward) (medium_of j.westward) p q in
    let east = passed_east xor_check c.args.west.now c.args.east.now media c.args.eastward c.args.westward (medium_of j.eastward) (medium_of j.westward) p q in
    let west = passed_west xor_check c.args.west.now c.args.east.now media c.args.eastward c.args.westward (medium_of j.eastward) (medium_of j.westward) p q in
    let of : option_map kind_and_ends c.map-joined-in-Xor.result ≡ of_kind kind.Xor (option_map ends_of c.open-line-in-Xor.result.0) = search rules in
    let ends = of ∙ ap (of_kind kind.Xor) (c.open-line-in-Xor.ensures.ends ∙ ap ends_opened begun) in
    rw c.in-Xor.is (λ i. record { ends = ends i; eastward = (c.open-line-in-Xor.ensures.eastward ∙ east) i; westward = (c.open-line-in-Xor.ensures.westward ∙ west) i })
