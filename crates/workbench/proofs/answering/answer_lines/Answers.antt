use Rattle.std.proofs.Common.{sym, subst}
use Rattle.std.proofs.lemmas.Option.{IfSome_then}
use Rattle.std.specs.Io.Buffered.{reader_remaining, writer_contents}
use Rattle.bench.specs.Told.{bench_of}
use Rattle.workbench.specs.Answers.{Stepped, Written}
use Rattle.workbench.specs.Lines.{lines}
use Rattle.workbench.proofs.Answers.{written-none, written-more, written-kept}
use Rattle.workbench.proofs.Fronts.{at_known}
use Rattle.workbench.proofs.answering.answer_lines.Goals as goal

pub returns-then-not-branch-clause-answers : goal.returns-then-not-branch-clause-answers
returns-then-not-branch-clause-answers g c =
    let here = reader_remaining g.R.Read.remaining c.loop.input in
    let left = reader_remaining g.R.Read.remaining c.answer_line.new.input in
    let start = writer_contents g.W.Write.contents c.loop.output in
    let old = writer_contents g.W.Write.contents c.show.new.output in
    let new = writer_contents g.W.Write.contents c.answer_line.new.output in
    let w = bench_of c.loop.bench in
    let v = bench_of c.answer_line.new.bench in
    IfSome_then (reader_remaining g.R.Read.remaining c.args.input.now) c.loop.invariant (λ script k.
    let step = subst (λ b. Stepped b w k.0 left old new v) c.if-not-branch.true (at_known here (λ xs. Stepped c.in_ok-answer_line.field-0 w xs left old new v) k.0 k.1 c.in_ok-answer_line.ensures) in
    k.2 new v (written-kept w v (lines k.0) start old new c.show.ensures.bytes (subst (λ xs. Written w (lines xs) old new v) (sym step.0) (written-none w v old new step.2 step.3))))

pub loop-preserved : goal.loop-preserved
loop-preserved g c =
    let here = reader_remaining g.R.Read.remaining c.loop.input in
    let left = reader_remaining g.R.Read.remaining c.answer_line.new.input in
    let start = writer_contents g.W.Write.contents c.loop.output in
    let old = writer_contents g.W.Write.contents c.show.new.output in
    let mid = writer_contents g.W.Write.contents c.answer_line.new.output in
    let w = bench_of c.loop.bench in
    let u = bench_of c.answer_line.new.bench in
    IfSome_then (reader_remaining g.R.Read.remaining c.args.input.now) c.loop.invariant (λ script k.
    let step = subst (λ b. Stepped b w k.0 left old mid u) c.if-not-branch.false (at_known here (λ xs. Stepped c.in_ok-answer_line.field-0 w xs left old mid u) k.0 k.1 c.in_ok-answer_line.ensures) in
    (step.1, step.4, λ new v more. k.2 new v (written-kept w v (lines k.0) start old new c.show.ensures.bytes (subst (λ ls. Written w ls old new v) (sym step.3) (written-more w u v step.0 step.2 (lines step.1) old mid new step.5 step.6 more)))))
