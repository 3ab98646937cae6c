use Rattle.std.proofs.Common.{subst}
use Rattle.sum_bounds.specs.Bounds.{State}
use Rattle.sum_bounds.specs.Bases.{AddsBases}
use Rattle.sum_bounds.proofs.Conflicts.{state_of}
use Rattle.sum_bounds.proofs.Bases.{grown_by_leaf}
use Rattle.sum_bounds.proofs.state.SumBounds.leaf.Goals as goal

pub returns-clause-bases : goal.returns-clause-bases
returns-clause-bases c =
    subst (λ (s : State). AddsBases s (state_of c.add_leaf.new.simplex)) c.self.view_is
    (grown_by_leaf c.self.inside.simplex c.add_leaf.new.simplex c.add_leaf.new.keys c.args.term c.in_ok-add_leaf.ensures.ok c.facts.ensures.table c.facts.ensures.solution.count)
