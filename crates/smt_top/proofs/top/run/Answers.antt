use Rattle.smt_top.proofs.top.run.Goals as goal

pub returns-clause-ran : goal.returns-clause-ran
returns-clause-ran g c = c.run_within.ensures.ran

pub returns-clause-untouched : goal.returns-clause-untouched
returns-clause-untouched g c = c.run_within.ensures.untouched

pub returns-clause-silent : goal.returns-clause-silent
returns-clause-silent g c = c.run_within.ensures.silent

pub returns-clause-unasked : goal.returns-clause-unasked
returns-clause-unasked g c = c.run_within.ensures.unasked
