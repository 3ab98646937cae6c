use Rattle.std.proofs.Common.{map, subst}
use Rattle.std.specs.Prelude.{IfSome}
use Rattle.simplex_steps.specs.State.{column_in}
use Rattle.sum_bounds.specs.Bounds.{State, sums, told_of}
use Rattle.sum_bounds.specs.Wholes.{IsWholeConflict}
use Rattle.sum_bounds.proofs.state.SumBounds.whole_conflict.Goals as goal

pub returns-in-Some : goal.returns-in-Some
returns-in-Some c =
    let x = c.self.inside.simplex in
    subst (λ (s : State). IsWholeConflict (sums s) s.told c.in-Some.clause.items) c.self.view_is
    (subst (λ o. IfSome o (λ ls. IsWholeConflict (λ i. (column_in x.columns i).sum) (map told_of x.bounds) ls.items)) c.in-Some.is c.in_ok-found.ensures)

pub returns-in-None : goal.returns-in-None
returns-in-None c = subst (λ (s : State). IfSome c.split_conflict.result (λ ls. IsWholeConflict (sums s) s.told ls.items)) c.self.view_is c.split_conflict.ensures
