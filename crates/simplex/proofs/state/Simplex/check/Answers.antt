use Rattle.std.proofs.Common.{◌≡◌, ◌∙◌, ◌++◌, ℕ, List, length, take, drop, ap, sym, subst, arith}
use Rattle.std.proofs.lemmas.List.{take-append-le, take_all}
use Rattle.fraction128.specs.declared.Column.{Column}
use Rattle.simplex_steps.specs.State.{AreRanged}
use Rattle.simplex_steps.specs.Run.{IsRun}
use Rattle.simplex_steps.specs.Suspects.{Covers}
use Rattle.simplex.specs.State.{IsWatched}
use Rattle.simplex.proofs.BoundLemmas.{ranged_of, core_run}
use Rattle.simplex.proofs.state.Simplex.check.Goals as goal

-- a slice written back into its vector
items_back : (n : ℕ) (new old : List Column) → n ≡ length old → length new ≡ length old → take n (new ++ drop (length new) old) ≡ new
items_back n new old is len =
    ap (λ m. take m (new ++ drop (length new) old)) (is ∙ sym len) ∙ take-append-le (length new) new (drop (length new) old) (omega arith) ∙ take_all (length new) new (omega arith)

pub check-outcome-requires-clause-ranged : goal.check-outcome-requires-clause-ranged
check-outcome-requires-clause-ranged c =
    subst AreRanged (sym c.deref_mut.ensures.value) (ranged_of c.self.inside.tableau c.self.inside.columns.items c.self.inside.trail c.self.invariant.core)

pub check-outcome-requires-clause-covers : goal.check-outcome-requires-clause-covers
check-outcome-requires-clause-covers c = subst (Covers c.self.inside.suspects) (sym c.deref_mut.ensures.value) c.self.invariant.covers

pub invariant_of-self : goal.invariant_of-self
invariant_of-self c =
    let run = subst (λ (cs : List Column). IsRun c.self.inside.tableau cs c.check-outcome.new.tableau c.check-outcome.new.columns c.check-outcome.result.pivots) c.deref_mut.ensures.value c.check-outcome.ensures.checked.search.run in
    subst (λ (cs : List Column). IsWatched c.check-outcome.new.tableau cs c.self.inside.trail c.check-outcome.new.suspects) (sym (items_back c.self.inside.columns.len c.check-outcome.new.columns c.self.inside.columns.items c.self.inside.columns.ok.0 run.bounds.count))
    (record { core = core_run c.self.inside.tableau c.self.inside.columns.items c.check-outcome.new.tableau c.check-outcome.new.columns c.check-outcome.result.pivots c.self.inside.trail c.self.invariant.core run; covers = c.check-outcome.ensures.covers })
