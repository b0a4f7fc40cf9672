use Rattle.std.proofs.Common.{codes, rules, arith}
use Rattle.std.proofs.lemmas.Slice.Eq.{text_from_reads}
use Rattle.medium_script.proofs.call.call_after.Goals as goal

pub returns-in_ok-spec_in-in-make : goal.returns-in_ok-spec_in-in-make
returns-in_ok-spec_in-in-make c = rw (text_from_reads c.args.word.now (codes "make") (omega arith) (search rules)) (search rules)

pub returns-in_err-spec_in-in-make : goal.returns-in_err-spec_in-in-make
returns-in_err-spec_in-in-make c = rw (text_from_reads c.args.word.now (codes "make") (omega arith) (search rules)) (search rules)

pub returns-in_ok-bytes-in-offer : goal.returns-in_ok-bytes-in-offer
returns-in_ok-bytes-in-offer c = rw (text_from_reads c.args.word.now (codes "offer") (omega arith) (search rules)) (search rules)

pub returns-in_err-bytes-in-offer : goal.returns-in_err-bytes-in-offer
returns-in_err-bytes-in-offer c = rw (text_from_reads c.args.word.now (codes "offer") (omega arith) (search rules)) (search rules)

pub returns-in-take : goal.returns-in-take
returns-in-take c = rw (text_from_reads c.args.word.now (codes "take") (omega arith) (search rules)) (search rules)

pub returns-in-count : goal.returns-in-count
returns-in-count c = rw (text_from_reads c.args.word.now (codes "count") (omega arith) (search rules)) (search rules)

pub returns-in-holds : goal.returns-in-holds
returns-in-holds c = rw (text_from_reads c.args.word.now (codes "holds") (omega arith) (search rules)) (search rules)
