use Rattle.std.proofs.Common.{All, subst, sym}
use Rattle.clause_store.specs.Stored.{Stored}
use Rattle.conflict_learn.specs.Learning.{IsKeptId}
use Rattle.cdcl_core.proofs.learn.learn.Goals as goal

pub raise_premises-requires : goal.raise_premises-requires
raise_premises-requires c = subst (λ (s : Stored). All (IsKeptId s.clauses) c.derive.new.learner.premises) (sym c.in_ok-learning.ensures.same) c.in_ok-learning.ensures.premises
