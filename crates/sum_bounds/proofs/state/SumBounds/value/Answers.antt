use Rattle.std.proofs.Common.{◌≡◌, sym, ap, ◌∙◌}
use Rattle.fraction128.specs.declared.Column.{Column}
use Rattle.fraction128.specs.Grid.{variable_of}
use Rattle.simplex_steps.specs.State.{values}
use Rattle.sum_bounds.specs.Bounds.{State, leaf_values}
use Rattle.simplex.proofs.Leaves.{leaf_found}
use Rattle.sum_bounds.proofs.state.SumBounds.value.Goals as goal

pub returns-clause-some : goal.returns-clause-some
returns-clause-some c =
    let found : variable_of c.self.inside.simplex.columns c.args.term ≡ c.in_ok-variable.variable =
    leaf_found c.self.inside.simplex.columns c.args.term c.in_ok-variable.variable c.self.invariant.apart c.in_ok-variable.ensures.known c.in_ok-variable.ensures.some in
    ap (λ (d : Column). d.value) c.column.ensures ∙ ap (values c.self.inside.simplex.columns) (sym found) ∙ ap (λ (s : State). leaf_values s c.args.term) c.self.view_is
