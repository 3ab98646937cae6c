use Rattle.smt_reader.proofs.Answers.{one_answer}
use Rattle.smt_reader.proofs.Settled.{settled_once}
use Rattle.smt_reader.proofs.law.reads_in_one_way.Goals as goal

pub returns-clause-first : goal.returns-clause-first
returns-clause-first c = one_answer

pub returns-clause-settled : goal.returns-clause-settled
returns-clause-settled c = settled_once
