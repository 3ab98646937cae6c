use Rattle.std.proofs.Common.{arith}
use Rattle.std.proofs.lemmas.List.{same_lists}
use Rattle.race_model.proofs.clause.are_same.Goals as goal

pub returns : goal.returns
returns g c = same_lists _ _ c.loop-i.invariant.lengths (λ k d lt. c.loop-i.invariant.same k d (omega arith))
