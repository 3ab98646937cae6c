use Rattle.std.proofs.Common.{[], ◌∷◌}
use Rattle.bound_clauses.proofs.Comparing.{neither}
use Rattle.bound_clauses.proofs.laws.equality_is_over.Goals as goal

pub returns : goal.returns
returns c same below above nb na = c.order_is_over.ensures same (below ∷ above ∷ []) (neither same below above nb na)
