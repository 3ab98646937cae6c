use Rattle.std.proofs.Common.{◌∙◌, ap, length, subst, sym, take, ◌-◌}
use Rattle.simplex.specs.Trail.{Trail}
use Rattle.simplex.specs.State.{State, IsWatched, HasBounds}
use Rattle.simplex_steps.specs.State.{column_in}
use Rattle.simplex.proofs.WatchLemmas.{covers_undone}
use Rattle.simplex.proofs.BoundLemmas.{core_undone, last_known, take_none}
use Rattle.simplex.proofs.state.Simplex.undo.Goals as goal

pub refresh-requires-clause-known : goal.refresh-requires-clause-known
refresh-requires-clause-known c = last_known (length c.self.inside.columns.items) c.self.inside.trail.bounds c.undo.new.self.bounds c.in-Some.set c.self.invariant.core.known c.in-Some.ensures.bounds

pub invariant_of-self : goal.invariant_of-self
invariant_of-self c =
    let lt = last_known (length c.self.inside.columns.items) c.self.inside.trail.bounds c.undo.new.self.bounds c.in-Some.set c.self.invariant.core.known c.in-Some.ensures.bounds in
    subst (λ cs. IsWatched c.self.inside.tableau cs c.undo.new.self c.self.inside.suspects) (sym c.refresh.ensures)
    (record {
      core = core_undone c.self.inside.tableau c.self.inside.columns.items c.self.inside.trail c.undo.new.self c.in-Some.set c.self.invariant.core c.undo.ensures.count c.in-Some.ensures.bounds lt;
      covers = covers_undone c.self.inside.suspects c.self.inside.columns.items c.undo.new.self.bounds c.in-Some.set c.self.invariant.covers lt
          (subst (λ bs. HasBounds bs c.in-Some.set.variable (column_in c.self.inside.columns.items c.in-Some.set.variable)) c.in-Some.ensures.bounds (c.self.invariant.core.bounded c.in-Some.set.variable lt));
    })

pub invariant_of-self-in_default : goal.invariant_of-self-in_default
invariant_of-self-in_default c =
    subst (λ (r : Trail). IsWatched c.self.inside.tableau c.self.inside.columns.items r c.self.inside.suspects) (sym c.in_default.ensures.same) c.self.invariant

pub returns-in_default-clause-bounds : goal.returns-in_default-clause-bounds
returns-in_default-clause-bounds c =
    let old = ap (λ (s : State). s.bounds) c.self.view_is in
    let none = c.in_default.ensures.none in
    ap (λ (t : Trail). t.bounds) c.in_default.ensures.same ∙ none ∙ sym (take_none (length c.args.self.now.bounds - 1)) ∙ ap (take (length c.args.self.now.bounds - 1)) (sym none ∙ old)
