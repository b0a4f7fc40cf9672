use Rattle.std.proofs.Common.{[], ◌∷◌, ◌+◌, length, get_or, take, drop, ◌-◌, ◌∙◌, rules, arith, add-one, length-drop}
use Rattle.std.proofs.Math.Seq.{drop-cons}
use Rattle.std.proofs.lemmas.Bool.Decides.{nat_tests}
use Rattle.std.specs.Str.{IsUtf8}
use Rattle.notation.proofs.Pairs.{four_first, four_text, left_less, left_none, pair_shown}
use Rattle.notation.proofs.hex.HexDisplay.fmt.Goals as goal

pub unwrap-requires : goal.unwrap-requires
unwrap-requires g c =
    let xs = c.loop-rest.rest.now in
    let text : IsUtf8 c.figures.result = rw c.figures.ensures (four_text (get_or xs 0 0) (get_or xs 1 0) (get_or xs 2 0) (get_or xs 3 0) (omega arith) (omega arith) (omega arith) (omega arith)) in
    search rules

pub loop-rest-preserved : goal.loop-rest-preserved
loop-rest-preserved g c = λ plain.
    let xs = c.loop-rest.rest.now in
    let front = get_or xs 0 0 ∷ get_or xs 1 0 ∷ get_or xs 2 0 ∷ get_or xs 3 0 ∷ [] in
    let same = rw c.unwrap.ensures at c.from_utf8.ensures.cases in
    left_less _ _ _ _ c.args.self.now.bytes.now xs front (take (length xs - 4) (drop 4 xs)) c.unwrap.result.now (c.loop-rest.invariant plain) (search rules) (same.0 ∙ c.figures.ensures) (four_first xs c.in-len4-up.len_at_least)

pub loop-b-preserved : goal.loop-b-preserved
loop-b-preserved g c = λ plain.
    let xs = c.loop-rest.rest.now in
    let i = c.loop-b.b-index in
    let b = get_or xs i 0 in
    left_less _ _ _ _ c.args.self.now.bytes.now (drop i xs) (b ∷ []) (drop (i + 1) xs) _ (c.loop-b.invariant plain) (search rules) (pair_shown b (omega arith)) (rw (add-one, drop-cons xs i 0 c.loop-b-test.true))

pub returns-clause-writes : goal.returns-clause-writes
returns-clause-writes g c = λ plain _.
    left_none _ _ _ c.args.self.now.bytes.now (drop c.loop-b.b-index c.loop-rest.rest.now) (c.loop-b.invariant plain) (omega (arith, length-drop c.loop-b.b-index c.loop-rest.rest.now)) (grind (arith, nat_tests))
