use Rattle.std.proofs.Common.{◌<◌, ◌∙◌, length, sym, subst}
use Rattle.std.proofs.lemmas.List.{get_or_default}
use Rattle.fraction128.specs.declared.Column.{Column}
use Rattle.simplex_steps.specs.State.{IsRanged, no_column}
use Rattle.simplex.specs.State.{State}
use Rattle.simplex.proofs.BoundLemmas.{ranged_of, fixed_ranged}
use Rattle.simplex.proofs.state.Simplex.fixed.Goals as goal

pub returns-clause-in_range : goal.returns-clause-in_range
returns-clause-in_range c =
    let known : c.args.variable < length c.self.inside.columns.items = subst (λ (s : State). c.args.variable < length s.columns) (sym c.self.view_is) c.requires in
    let is = c.index.ensures ∙ get_or_default c.self.inside.columns.items c.args.variable c.index.result.now no_column known in
    fixed_ranged c.common.result c.index.result.now c.common.ensures.some
    (subst (λ (x : Column). IsRanged x.lower) (sym is) (ranged_of c.self.inside.tableau c.self.inside.columns.items c.self.inside.trail c.self.invariant.core c.args.variable).0)
