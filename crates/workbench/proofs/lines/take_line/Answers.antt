use Rattle.std.proofs.Common.{◌≡◌, ◌≢◌, ◌+◌, ◌<◌, [], ◌++◌, Some, true, false, eqb, vec_len, length, sym, ap, subst, ◌∙◌, rules, arith}
use Rattle.std.proofs.BufReadLemmas.{take_through_nonempty}
use Rattle.std.proofs.lemmas.List.Elements.{All-nil, All-take}
use Rattle.std.proofs.lemmas.Option.{IfSome_then}
use Rattle.std.specs.Io.{appended_bytes}
use Rattle.std.specs.Io.BufRead.{take_through, drop_through}
use Rattle.std.specs.Io.Iter.{u64_saturate}
use Rattle.std.specs.Io.KnownBytes.{Consumes, IsAtEnd}
use Rattle.std.specs.List.{list_any}
use Rattle.script_words.specs.Arguments.{is_blank}
use Rattle.workbench.proofs.Blanks.{Endless, blank-of_none}
use Rattle.workbench.proofs.Fronts.{Kept, kept-nothing, kept-more, kept-blank, at_known, taken-whole, taken-if_there, read-whole, endless-of_search, some-of_filled}
use Rattle.workbench.proofs.lines.take_line.Goals.{then-branch-gt0, else-branch-gt0}
use Rattle.workbench.proofs.lines.take_line.Goals as goal

pub loop-init : goal.loop-init
loop-init g c = (subst Endless (sym c.clear.ensures.items) (All-nil (λ b. b ≢ 10)), kept-nothing (g.R.Read.remaining c.args.input.now) c.clear.new.self.items c.clear.ensures.items)

pub returns-in-Ok-2 : goal.returns-in-Ok-2
returns-in-Ok-2 g c =
    let here = g.R.Read.remaining c.loop.input in
    let left = g.R.Read.remaining c.read_until.new.self in
    let line = c.loop.line.items in
    let new = c.read_until.new.buf.items in
    let some : 0 < length new = search rules in
    IfSome_then (g.R.Read.remaining c.args.input.now) c.loop.invariant.1 (λ script k.
    taken-whole script line k.0 new left k.2
    (at_known here (λ xs. new ≡ line ++ take_through 10 xs) k.0 k.1 c.in-Ok-2.ensures.bytes)
    (at_known here (λ xs. left ≡ Some (drop_through 10 xs)) k.0 k.1 c.in-Ok-2.ensures.rest) some)

pub returns-in-Err-2 : goal.returns-in-Err-2
returns-in-Err-2 g c =
    let left = g.R.Read.remaining c.read_until.new.self in
    let line = c.loop.line.items in
    let new = c.read_until.new.buf.items in
    let found : list_any (λ b. eqb b 10) new ≡ true = ap (list_any (λ b. eqb b 10)) (sym c.deref.ensures.value) ∙ sym c.contains.ensures.value ∙ c.if-contains.true in
    IfSome_then (g.R.Read.remaining c.args.input.now) c.loop.invariant.1 (λ script k.
    let read = subst (λ o. Consumes o left (appended_bytes line new)) k.1 c.read_until.ensures.none_lost in
    let whole = read-whole line new k.0 left c.loop.invariant.0 c.read_until.ensures.appends c.read_until.ensures.stops read found in
    taken-whole script line k.0 new left k.2 whole.0 whole.1 whole.2)

pub returns-in-Err-4 : goal.returns-in-Err-4
returns-in-Err-4 g c =
    let left = g.R.Read.remaining c.read_until.new.self in
    let after = g.R.Read.remaining c.skip_until.new.self in
    let line = c.loop.line.items in
    let new = c.read_until.new.buf.items in
    let endless = endless-of_search new (ap (list_any (λ b. eqb b 10)) (sym c.deref.ensures.value) ∙ sym c.contains.ensures.value ∙ c.if-contains.false) in
    let skipped = c.in_ok-skip_until-in-Err-4.field-0 in
    let counted : vec_len c.read_until.new.buf ≡ length new = search rules in
    IfSome_then (g.R.Read.remaining c.args.input.now) c.loop.invariant.1 (λ script k.
    let read = subst (λ o. Consumes o left (appended_bytes line new)) k.1 c.read_until.ensures.none_lost in
    let more = kept-more script line new k.0 left k.2 c.read_until.ensures.appends endless read in
    let rest = more.0 in
    let dropped = at_known left (λ xs. after ≡ Some (drop_through 10 xs)) rest more.1 c.in_ok-skip_until-in-Err-4.ensures.rest in
    let count = at_known left (λ xs. skipped ≡ u64_saturate (length (take_through 10 xs))) rest more.1 c.in_ok-skip_until-in-Err-4.ensures.count in
    let end : skipped ≡ 0 → rest ≡ [] = λ none. subst IsAtEnd more.1 (c.in_ok-skip_until-in-Err-4.ensures.end none) in
    let there : c.if-branch-gt0.is_there ≡ true → 0 < length new + length rest = elim c.if-branch-gt0.branch [
      | then-branch-gt0 w ↦ λ _. let some = take_through_nonempty 10 rest (search rules) in omega arith
      | else-branch-gt0 w ↦ λ t. let begun = some-of_filled c.is_empty-is_begun.result (length new) (c.is_empty-is_begun.ensures ∙ ap (λ n. eqb n 0) counted) (sym w.is_there-is ∙ t) in omega arith
    ] in
    let none : c.if-branch-gt0.is_there ≡ false → (length new ≡ 0) × (rest ≡ []) = elim c.if-branch-gt0.branch [
      | then-branch-gt0 w ↦ λ f. absurd (search rules)
      | else-branch-gt0 w ↦ λ f. (search rules, end (search rules))
    ] in
    rw c.then_some.ensures (taken-if_there _ c.if-branch-gt0.is_there script new rest _ after more.2 dropped there none))

pub loop-preserved : goal.loop-preserved
loop-preserved g c =
    let left = g.R.Read.remaining c.read_until.new.self in
    let line = c.loop.line.items in
    let new = c.read_until.new.buf.items in
    let endless = endless-of_search new (ap (list_any (λ b. eqb b 10)) (sym c.deref.ensures.value) ∙ sym c.contains.ensures.value ∙ c.if-contains.false) in
    let some : 0 < length new = search rules in
    let blank : is_blank new ≡ true = subst (λ l. is_blank l ≡ true) c.deref-then-len-gt1.ensures.value (blank-of_none (λ words. words.rest.now) c.of.result c.deref-then-len-gt1.result.now c.of.ensures (search rules)) in (
      subst Endless (sym c.truncate.ensures.items) (All-take (λ b. b ≢ 10) 1 new endless),
      IfSome_then (g.R.Read.remaining c.args.input.now) c.loop.invariant.1 (λ script k.
          let read = subst (λ o. Consumes o left (appended_bytes line new)) k.1 c.read_until.ensures.none_lost in
          let more = kept-more script line new k.0 left k.2 c.read_until.ensures.appends endless read in
          (more.0, more.1, subst (λ l. Kept script l more.0) (sym c.truncate.ensures.items) (kept-blank script new more.0 more.2 endless blank some))),
    )
