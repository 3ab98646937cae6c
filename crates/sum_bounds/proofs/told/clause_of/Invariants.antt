use Rattle.sum_bounds.proofs.Complements.{IsClauseTo}
use Rattle.sum_bounds.proofs.told.clause_of.Given as goal

abbrev pub invariant-loop-tag : goal.invariant-loop-tag
invariant-loop-tag l = IsClauseTo l.tag-index l.tags l.clause.items
