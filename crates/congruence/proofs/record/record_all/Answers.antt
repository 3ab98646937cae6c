use Rattle.congruence.proofs.Recording.{reasoned_partly}
use Rattle.congruence.proofs.record.record_all.Goals as goal

pub returns-clause-reasoned : goal.returns-clause-reasoned
returns-clause-reasoned c = λ ds ts table log.
    reasoned_partly ds ts table log c.args.congruence.now c.record_each.new.congruence c.args.steps.now c.args.reason c.record_each.ensures.partly c.record_each.ensures.recorded c.record_each.ensures.graph
