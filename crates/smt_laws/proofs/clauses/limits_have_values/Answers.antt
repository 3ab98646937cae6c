use Rattle.std.proofs.Common.{ℕ}
use Rattle.smt_meaning.specs.Term.{Tree}
use Rattle.smt_laws.proofs.DivisionLaw.{limits_valued}
use Rattle.smt_laws.proofs.clauses.limits_have_values.Goals as goal

pub returns-clause-trees : goal.returns-clause-trees
returns-clause-trees c = limits_valued Tree

pub returns-clause-places : goal.returns-clause-places
returns-clause-places c = limits_valued ℕ
