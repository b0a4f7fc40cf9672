use Rattle.script_words.proofs.Readings.{one_word}
use Rattle.script_words.specs.declared.fault.Fault.TheVariants as fault
use Rattle.medium_script.specs.Specs.{spec}
use Rattle.medium_script.proofs.call.spec_in.Goals as goal

pub returns-clause-value : goal.returns-clause-value
returns-clause-value c = one_word spec fault.Spec c.try_from.result c.args.words.now.rest.now c.in_ok-due.field-0.now c.due.new.self.rest.now c.in_ok-due.ensures.value c.try_from.ensures
