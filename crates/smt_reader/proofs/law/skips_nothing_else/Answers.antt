use Rattle.smt_reader.proofs.Skipping.{answer_both, takes_both, skips_twice, skips_fed, skips_finished}
use Rattle.smt_reader.proofs.law.skips_nothing_else.Goals as goal

pub returns-clause-settled : goal.returns-clause-settled
returns-clause-settled c old new a p = answer_both old new p a

pub returns-clause-takes : goal.returns-clause-takes
returns-clause-takes c old new tokens later p s = takes_both old new p tokens later s

pub returns-clause-twice : goal.returns-clause-twice
returns-clause-twice c u v w p q = skips_twice u v w p q

pub returns-clause-fed : goal.returns-clause-fed
returns-clause-fed c old new piece p = skips_fed old new p piece

pub returns-clause-finished : goal.returns-clause-finished
returns-clause-finished c old new p = skips_finished old new p
