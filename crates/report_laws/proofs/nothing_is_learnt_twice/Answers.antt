use Rattle.report_laws.proofs.Twice as Twice
use Rattle.report_laws.proofs.nothing_is_learnt_twice.Goals as goal

pub returns-clause-each : goal.returns-clause-each
returns-clause-each c = Twice.nothing_twice

pub returns-clause-once : goal.returns-clause-once
returns-clause-once c = Twice.once

pub returns-clause-twice : goal.returns-clause-twice
returns-clause-twice c = Twice.twice
