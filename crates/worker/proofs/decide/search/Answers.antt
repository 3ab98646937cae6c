use Rattle.std.proofs.Common.{◌≤◌, subst, sym, ap, [], false, All, length, arith, ◌≡◌, ◌∙◌}
use Rattle.std.proofs.lemmas.List.Elements.{All-nil}
use Rattle.search_port.specs.State.{Reading, TheoryState, IsGrown}
use Rattle.search_port.specs.Spending.{Spending}
use Rattle.search_port.specs.declared.budget.Cause.{Cause}
use Rattle.smt_laws.specs.Flat.{flat}
use Rattle.first_clauses.specs.CheckClausesFirst.{reading_of}
use Rattle.cdcl_core.specs.Search.{IsAddable}
use Rattle.cdcl_core.specs.declared.solve.Outcome.TheVariants.{Ended as OutcomeEnded}
use Rattle.cdcl_core.specs.Turns.{EndsSearch, PivotsAtEnd, Searches}
use Rattle.worker.proofs.Deciding.{fresh, heard, heard_from, tables_for, holds, fit}
use Rattle.worker.proofs.Showing.{budget_of, frames_stay, of_numbers, shows_units, trees_stay}
use Rattle.worker.proofs.decide.search.Goals as goal

pub solve-requires-clause-hears : goal.solve-requires-clause-hears
solve-requires-clause-hears g c =
    let s = c.args.stack.now in
    let t : TheoryState = g.T.Theory.state c.args.theory in
    let k = c.requires.start in
    record {
      within = record {
        stands = c.fresh_stands.ensures c.args.store t (fresh s t.reading.table c.args.store t k.first k.reading k.untold);
        spent = subst (λ (b : Spending). length b.units ≤ b.limit) (sym c.new-budget.ensures) (omega arith);
      };
      grown = subst (λ (r : Reading). IsGrown r t.reading) (sym c.requires.hooked)
          (subst (IsGrown (record { trees = s.trees; frames = flat s.frames; table = []; closed = false })) (sym k.reading) (heard s t.reading.table));
      shorts = subst (λ (b : Spending). All (IsAddable t.reading) b.short) (sym c.new-budget.ensures) (All-nil (IsAddable t.reading));
    }

pub returns-in-Full-clause-found : goal.returns-in-Full-clause-found
returns-in-Full-clause-found g c =
    let s = c.args.stack.now in
    let before : Reading = (g.T.Theory.state c.args.theory).reading in
    let after : Reading = (g.T.Theory.state c.solve.new.theory).reading in
    let grown : IsGrown (reading_of s before.table) after = subst (λ (r : Reading). IsGrown r after) c.requires.start.reading c.in-Full.ensures.run.turns.grown in
    record {
      tables = tables_for c.signature_stays.ensures s before.table after c.solve.new.store.clauses c.in-Full.tables grown c.in-Full.ensures.outcome;
      holds = holds c.first_clauses_say_assertions.ensures s before.table c.args.store after c.solve.new.store.clauses c.in-Full.tables c.requires.start.first grown c.in-Full.ensures.run.stay c.in-Full.ensures.outcome;
      fits = fit c.flat_says_the_same.ensures s before.table after c.solve.new.store.clauses c.in-Full.tables grown c.in-Full.ensures.outcome;
    }

pub returns-in-False-clause-found : goal.returns-in-False-clause-found
returns-in-False-clause-found g c =
    let s = c.args.stack.now in
    let before : Reading = (g.T.Theory.state c.args.theory).reading in
    let after : Reading = (g.T.Theory.state c.solve.new.theory).reading in
    let grown : IsGrown (reading_of s before.table) after = subst (λ (r : Reading). IsGrown r after) c.requires.start.reading c.in-False.ensures.run.turns.grown in
    c.empty_clause_means_no_model.ensures s before.table after c.in-False.field-0 grown c.in-False.ensures.outcome

pub all_spent-requires-clause-trees : goal.all_spent-requires-clause-trees
all_spent-requires-clause-trees g c =
    trees_stay c.args.stack.now (g.T.Theory.state c.args.theory).reading (g.T.Theory.state c.solve.new.theory).reading c.requires.start.reading c.in-Ended-Units.ensures.run.turns.grown

pub all_spent-requires-clause-frames : goal.all_spent-requires-clause-frames
all_spent-requires-clause-frames g c =
    frames_stay c.args.stack.now (g.T.Theory.state c.args.theory).reading (g.T.Theory.state c.solve.new.theory).reading c.requires.start.reading c.in-Ended-Units.ensures.run.turns.grown

pub all_spent-requires-clause-numbers : goal.all_spent-requires-clause-numbers
all_spent-requires-clause-numbers g c =
    of_numbers (g.T.Theory.state c.args.theory).reading (g.T.Theory.state c.solve.new.theory).reading c.new-budget.result c.solve.new.budget (ap (λ (b : Spending). b.units) c.new-budget.ensures)
    c.in-Ended-Units.ensures.run.turns.shown

pub all_spent-requires-clause-spent : goal.all_spent-requires-clause-spent
all_spent-requires-clause-spent g c =
    let s = c.args.stack.now in
    let before : TheoryState = g.T.Theory.state c.args.theory in
    let after : TheoryState = g.T.Theory.state c.solve.new.theory in
    λ may_not.
    let kept : c.may_forget-forgets.result ≡ false = c.may_forget-forgets.ensures ∙ may_not in
    shows_units (record { as_written = c.follows_as_written.ensures; by_numbers = c.forces_by_numbers.ensures; in_turn = c.forces_in_turn.ensures; flatly = c.flat_says_the_same.ensures }) s c.args.store
    c.solve.new.store c.laws.ensures c.args.settings.now.units (g.T.Theory.state c.args.theory) after c.new-budget.result c.solve.new.budget c.requires.start.first c.requires.start.all c.requires.start.reading c.requires.start.pivots
    (budget_of c.args.settings.now.units c.new-budget.result c.units_within-limit.result _ _ _ c.new-budget.ensures kept c.units_within-limit.ensures c.has_limit-limited.ensures)
    (subst (λ f. Searches f c.args.store c.solve.new.store before after c.new-budget.result c.solve.new.budget) kept c.in-Ended-Units.ensures.run)
    (subst (λ (e : Cause). PivotsAtEnd (g.T.Theory.state c.args.theory) after c.new-budget.result c.solve.new.budget (OutcomeEnded e)) c.in-Ended-Units.field-0-is c.in-Ended-Units.ensures.pivots)
    (subst (λ (e : Cause). EndsSearch after.reading c.solve.new.budget (g.H.Hook.stopped c.solve.new.hook) e) c.in-Ended-Units.field-0-is c.in-Ended-Units.ensures.outcome)

pub stopped-requires-clause-trees : goal.stopped-requires-clause-trees
stopped-requires-clause-trees g c =
    trees_stay c.args.stack.now (g.T.Theory.state c.args.theory).reading (g.T.Theory.state c.solve.new.theory).reading c.requires.start.reading c.in-Ended-Memory.ensures.run.turns.grown

pub stopped-requires-clause-frames : goal.stopped-requires-clause-frames
stopped-requires-clause-frames g c =
    frames_stay c.args.stack.now (g.T.Theory.state c.args.theory).reading (g.T.Theory.state c.solve.new.theory).reading c.requires.start.reading c.in-Ended-Memory.ensures.run.turns.grown

pub returns-in-Full-clause-heard : goal.returns-in-Full-clause-heard
returns-in-Full-clause-heard g c = heard_from _ _ _ _ _ c.new-budget.result c.solve.new.budget c.new-budget.ensures c.in-Full.ensures.heard

pub returns-in-False-clause-heard : goal.returns-in-False-clause-heard
returns-in-False-clause-heard g c = heard_from _ _ _ _ _ c.new-budget.result c.solve.new.budget c.new-budget.ensures c.in-False.ensures.heard

pub returns-in-Ended-Units-clause-heard : goal.returns-in-Ended-Units-clause-heard
returns-in-Ended-Units-clause-heard g c = heard_from _ _ _ _ _ c.new-budget.result c.solve.new.budget c.new-budget.ensures c.in-Ended-Units.ensures.heard

pub returns-in-Ended-Memory-clause-heard : goal.returns-in-Ended-Memory-clause-heard
returns-in-Ended-Memory-clause-heard g c = heard_from _ _ _ _ _ c.new-budget.result c.solve.new.budget c.new-budget.ensures c.in-Ended-Memory.ensures.heard

pub returns-in-Ended-Cancelled-clause-heard : goal.returns-in-Ended-Cancelled-clause-heard
returns-in-Ended-Cancelled-clause-heard g c = heard_from _ _ _ _ _ c.new-budget.result c.solve.new.budget c.new-budget.ensures c.in-Ended-Cancelled.ensures.heard

pub returns-in-Ended-Cancelled-clause-found : goal.returns-in-Ended-Cancelled-clause-found
returns-in-Ended-Cancelled-clause-found g c =
    let after : TheoryState = g.T.Theory.state c.solve.new.theory in
    subst (λ (e : Cause). EndsSearch after.reading c.solve.new.budget (g.H.Hook.stopped c.solve.new.hook) e) c.in-Ended-Cancelled.field-0-is c.in-Ended-Cancelled.ensures.outcome
