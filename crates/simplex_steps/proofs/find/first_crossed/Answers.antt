use Rattle.std.proofs.Common.{◌∙◌, ap, arith, get_or}
use Rattle.fraction128.specs.Grid.{is_crossed}
use Rattle.simplex_steps.proofs.Next.{none_crossed}
use Rattle.simplex_steps.proofs.SuspectLemmas.{crosses, calm_uncrossed, first_uncrossed, listed_at, column_found, chosen_more, found_some, found_none}
use Rattle.simplex_steps.proofs.find.first_crossed.Goals as goal

pub bounds-columns-variable : goal.bounds-columns-variable
bounds-columns-variable c = listed_at c.args.suspects.now c.args.columns.now c.variables-listed.result.now c.loop-variable.variable-index c.requires c.variables-listed.ensures (omega arith)

pub loop-variable-preserved : goal.loop-variable-preserved
loop-variable-preserved c =
    chosen_more (crosses c.args.columns.now) c.variables-listed.result.now c.loop-variable.variable-index c.loop-variable.found c.lesser-found.result c.is_crossed.result (omega arith) c.loop-variable.invariant
    (c.is_crossed.ensures
    ∙ ap is_crossed
    (column_found c.args.columns.now (get_or c.variables-listed.result.now c.loop-variable.variable-index 0) c.index-columns-variable.result
    (listed_at c.args.suspects.now c.args.columns.now c.variables-listed.result.now c.loop-variable.variable-index c.requires c.variables-listed.ensures (omega arith)) c.index-columns-variable.is)) c.lesser-found.ensures

pub returns-clause-some : goal.returns-clause-some
returns-clause-some c =
    found_some (crosses c.args.columns.now) c.args.suspects.now c.args.columns.now c.variables-listed.result.now c.loop-variable.variable-index c.loop-variable.found c.requires c.variables-listed.ensures (omega arith) c.loop-variable.invariant (calm_uncrossed c.args.columns.now)
    (λ i lt e least. (lt, e))

pub returns-clause-first : goal.returns-clause-first
returns-clause-first c =
    found_some (crosses c.args.columns.now) c.args.suspects.now c.args.columns.now c.variables-listed.result.now c.loop-variable.variable-index c.loop-variable.found c.requires c.variables-listed.ensures (omega arith) c.loop-variable.invariant (calm_uncrossed c.args.columns.now)
    (λ i lt e least. first_uncrossed c.args.columns.now i lt least)

pub returns-clause-none : goal.returns-clause-none
returns-clause-none c =
    found_none (crosses c.args.columns.now) c.args.suspects.now c.args.columns.now c.variables-listed.result.now c.loop-variable.variable-index c.loop-variable.found c.requires c.variables-listed.ensures (omega arith) c.loop-variable.invariant (calm_uncrossed c.args.columns.now)
    (λ none. none_crossed c.args.columns.now none)
