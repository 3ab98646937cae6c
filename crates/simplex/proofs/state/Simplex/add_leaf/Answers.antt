use Rattle.std.proofs.Common.{subst, sym, ◌+◌}
use Rattle.fraction128.specs.Ratio.{IsFraction}
use Rattle.tableau.proofs.Absent.{zero_fraction}
use Rattle.simplex.proofs.Meaning.{leaves_keep}
use Rattle.simplex.specs.State.{IsWatched, new_column}
use Rattle.simplex.proofs.GrowLemmas.{grown_free}
use Rattle.simplex.proofs.WatchLemmas.{watched_grown, watched_refused, watched_roomy}
use Rattle.simplex.proofs.state.Simplex.add_leaf.Goals as goal

pub invariant_of-self-2 : goal.invariant_of-self-2
invariant_of-self-2 c =
    let t = c.self.inside.tableau in
    let cs = c.self.inside.columns.items in
    let column = new_column c.in_ok-sum.sum c.from_whole.result in
    subst (λ u. IsWatched u c.push.new.self.items c.add_variable-2.new.self c.add_variable.new.self) (sym c.add_variable-3.ensures.new)
    (subst (λ ds. IsWatched (record { count = t.count + 1; rows = t.rows }) ds c.add_variable-2.new.self c.add_variable.new.self) (sym c.in_ok-push.ensures.items)
    (watched_grown t (record { count = t.count + 1; rows = t.rows }) cs c.self.inside.trail c.add_variable-2.new.self c.self.inside.suspects c.add_variable.new.self c.in_ok-sum.sum c.from_whole.result c.self.invariant
    (grown_free t cs column c.facts.ensures c.self.invariant.core.solution (subst IsFraction (sym c.from_whole.ensures) zero_fraction))
    (leaves_keep t cs column c.args.term c.facts.ensures c.self.invariant.core.solution.count c.self.invariant.core.meant c.in_ok-sum.ensures)
    c.in_ok-add_variable-2.ensures.ok c.in_ok-add_variable.ensures.ok))

pub invariant_of-self-in_err-add_variable-2 : goal.invariant_of-self-in_err-add_variable-2
invariant_of-self-in_err-add_variable-2 c =
    watched_refused c.self.inside.tableau c.self.inside.columns.items c.self.inside.trail c.add_variable-2.new.self c.self.inside.suspects c.add_variable.new.self c.self.invariant c.in_err-add_variable-2.ensures.err c.in_ok-add_variable.ensures.ok

pub invariant_of-self-in_err-push : goal.invariant_of-self-in_err-push
invariant_of-self-in_err-push c =
    subst (λ ds. IsWatched c.self.inside.tableau ds c.add_variable-2.new.self c.add_variable.new.self) (sym c.in_err-push.ensures.items)
    (watched_roomy c.self.inside.tableau c.self.inside.columns.items c.self.inside.trail c.add_variable-2.new.self c.self.inside.suspects c.add_variable.new.self c.self.invariant c.in_ok-add_variable-2.ensures.ok c.in_ok-add_variable.ensures.ok)
