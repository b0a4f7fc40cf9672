use Rattle.std.proofs.Common.{◌≡◌, ◌&&◌, true, false, slice_index, arith, rules}
use Rattle.std.proofs.lemmas.Bool.Decides.{nat_tests}
use Rattle.packet.specs.Letters.{between}
use Rattle.settings.specs.Frame.{word}
use Rattle.settings.proofs.settings.take_apart.Goals as goal

pub returns-then-not-contains : goal.returns-then-not-contains
returns-then-not-contains c =
    let periods : (between 10 6000 (word c.args.frame.now 3) && between 10 6000 (word c.args.frame.now 5)) ≡ false = grind (arith, nat_tests) in
    search rules

pub returns-then-not-contains-3 : goal.returns-then-not-contains-3
returns-then-not-contains-3 c =
    let f = c.args.frame.now in
    let periods : (between 10 6000 (word f 3) && between 10 6000 (word f 5)) ≡ true = search rules in
    let attempts : between 1 20 (slice_index f 7) ≡ false = search rules in
    search rules

pub returns-then-not-contains-4 : goal.returns-then-not-contains-4
returns-then-not-contains-4 c =
    let f = c.args.frame.now in
    let receive : between 1 8 (slice_index f 8) ≡ false = grind (arith, nat_tests) in
    let periods : (between 10 6000 (word f 3) && between 10 6000 (word f 5)) ≡ true = search rules in
    let attempts : between 1 20 (slice_index f 7) ≡ true = search rules in
    search rules

pub returns : goal.returns
returns c =
    let f = c.args.frame.now in
    let periods : (between 10 6000 (word f 3) && between 10 6000 (word f 5)) ≡ true = search rules in
    let attempts : between 1 20 (slice_index f 7) ≡ true = search rules in
    let receive : between 1 8 (slice_index f 8) ≡ true = search rules in
    search rules
