use Rattle.std.proofs.Common.{◌≡◌, ◌⊎◌, ◌∙◌, Some, ap, subst, inl, inr}
use Rattle.std.proofs.lemmas.Option.{IfSome_then}
use Rattle.std.specs.Io.Buffered.{reader_remaining, writer_contents}
use Rattle.bench.specs.Runs.{printed, after}
use Rattle.bench.specs.Told.{bench_of}
use Rattle.workbench.specs.Lines.{Taken}
use Rattle.workbench.proofs.Answers.{stepped-answered, stepped-passed}
use Rattle.workbench.proofs.answering.answer_line.Goals as goal

pub returns-in_ok-write_all-in-Ok : goal.returns-in_ok-write_all-in-Ok
returns-in_ok-write_all-in-Ok g c =
    let line = c.take_line.new.line.items in
    let left = reader_remaining g.R.Read.remaining c.take_line.new.input in
    let w = bench_of c.args.bench.now in
    let answer = c.in-Ok.ensures in
    IfSome_then (reader_remaining g.R.Read.remaining c.args.input.now) c.in_ok-take_line.ensures (λ script taken.
    stepped-answered w (bench_of c.run_line.new.bench) script line c.as_bytes.result.now left (writer_contents g.W.Write.contents c.args.output.now) (writer_contents g.W.Write.contents c.write_all.new.self)
    (subst (λ r. Taken script r line left) (c.in-Some-Ok.is ∙ ap Some c.in-Some-Ok.field-0-is) taken)
    (inl (c.as_bytes.ensures.value ∙ answer.answer ∙ ap (printed w) c.deref.ensures.value, answer.after ∙ ap (λ l. after l w) c.deref.ensures.value))
    c.in_ok-write_all-in-Ok.ensures.bytes)

pub returns-in_ok-write_all-in-Err : goal.returns-in_ok-write_all-in-Err
returns-in_ok-write_all-in-Err g c =
    let line = c.take_line.new.line.items in
    let left = reader_remaining g.R.Read.remaining c.take_line.new.input in
    let w = bench_of c.args.bench.now in
    let v = bench_of c.run_line.new.bench in
    IfSome_then (reader_remaining g.R.Read.remaining c.args.input.now) c.in_ok-take_line.ensures (λ script taken.
    stepped-answered w v script line c.as_bytes-in-Err.result.now left (writer_contents g.W.Write.contents c.args.output.now) (writer_contents g.W.Write.contents c.write_all-in-Err.new.self)
    (subst (λ r. Taken script r line left) (c.in-Some-Ok.is ∙ ap Some c.in-Some-Ok.field-0-is) taken)
    (inr (c.as_bytes-in-Err.ensures.value ∙ c.out_of_memory.ensures, subst (λ l. (v ≡ w) ⊎ (v ≡ after l w)) c.deref.ensures.value c.in-Err.ensures.after))
    c.in_ok-write_all-in-Err.ensures.bytes)

pub returns-in_ok-write_all-in-Some-Err : goal.returns-in_ok-write_all-in-Some-Err
returns-in_ok-write_all-in-Some-Err g c =
    let line = c.take_line.new.line.items in
    let left = reader_remaining g.R.Read.remaining c.take_line.new.input in
    IfSome_then (reader_remaining g.R.Read.remaining c.args.input.now) c.in_ok-take_line.ensures (λ script taken.
    stepped-passed c.in-Some-Err.field-0-0 (bench_of c.args.bench.now) script line c.as_bytes-in-Some-Err.result.now left (writer_contents g.W.Write.contents c.args.output.now)
    (writer_contents g.W.Write.contents c.write_all-in-Some-Err.new.self)
    (subst (λ r. Taken script r line left) (c.in-Some-Err.is ∙ ap Some c.in-Some-Err.field-0-is) taken)
    (c.as_bytes-in-Some-Err.ensures.value ∙ c.out_of_memory-in-Some-Err.ensures)
    c.in_ok-write_all-in-Some-Err.ensures.bytes)
