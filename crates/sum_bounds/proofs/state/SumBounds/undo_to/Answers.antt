use Rattle.std.proofs.Common.{◌∙◌, ap, take}
use Rattle.sum_bounds.specs.Bounds.{State}
use Rattle.sum_bounds.proofs.Growth.{core_kept, met_taken, told_taken}
use Rattle.sum_bounds.proofs.state.SumBounds.undo_to.Goals as goal

pub invariant_of-self : goal.invariant_of-self
invariant_of-self c =
    let s = c.self.inside.simplex in
    let u = c.undo_to.new.self in
    let keeps = c.undo_to.ensures.values in
    core_kept s u c.self.inside.keys c.self.inside.count c.self.inside.is_clean c.self.inside.is_clean c.self.invariant keeps.count (λ i. (keeps.each i).sum)
    (λ e. met_taken s.columns u.columns c.args.count s.bounds u.bounds keeps c.undo_to.ensures.bounds (c.self.invariant.clean e))

pub returns-clause-told : goal.returns-clause-told
returns-clause-told c =
    told_taken c.args.count c.self.inside.simplex.bounds c.undo_to.new.self.bounds c.undo_to.ensures.bounds ∙ ap (take c.args.count) (ap (λ (s : State). s.told) c.self.view_is)
