use Rattle.std.proofs.Common.{codes, sym, ◌∙◌, rules, arith}
use Rattle.std.proofs.lemmas.Slice.Eq.{text_from_reads}
use Rattle.medium_script.proofs.spec.base_of.Goals as goal

pub returns-in_ok-size-in-packed-default : goal.returns-in_ok-size-in-packed-default
returns-in_ok-size-in-packed-default c =
    let kind = sym c.split.ensures.before ∙ text_from_reads c.split.result.0.now (codes "packed") (omega arith) (search rules) in
    rw kind (search rules)
