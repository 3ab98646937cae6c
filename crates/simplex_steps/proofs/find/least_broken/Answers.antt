use Rattle.std.proofs.Common.{arith}
use Rattle.simplex_steps.proofs.SuspectLemmas.{is_basic_out, calm_basic, listed_at, chosen_more, found_some, found_none}
use Rattle.simplex_steps.proofs.find.least_broken.Goals as goal

pub is_broken-requires : goal.is_broken-requires
is_broken-requires c = listed_at c.args.suspects.now c.args.columns.now c.variables-listed.result.now c.loop-variable.variable-index c.requires c.variables-listed.ensures (omega arith)

pub loop-variable-preserved : goal.loop-variable-preserved
loop-variable-preserved c =
    chosen_more (is_basic_out c.args.tableau.now.rows c.args.columns.now) c.variables-listed.result.now c.loop-variable.variable-index c.loop-variable.found c.lesser-found.result c.is_broken.result (omega arith) c.loop-variable.invariant
    (c.is_broken.ensures) c.lesser-found.ensures

pub returns-clause-some : goal.returns-clause-some
returns-clause-some c =
    found_some (is_basic_out c.args.tableau.now.rows c.args.columns.now) c.args.suspects.now c.args.columns.now c.variables-listed.result.now c.loop-variable.variable-index c.loop-variable.found c.requires c.variables-listed.ensures (omega arith) c.loop-variable.invariant (calm_basic c.args.tableau.now.rows c.args.columns.now)
    (λ i lt e least. e)

pub returns-clause-first : goal.returns-clause-first
returns-clause-first c =
    found_some (is_basic_out c.args.tableau.now.rows c.args.columns.now) c.args.suspects.now c.args.columns.now c.variables-listed.result.now c.loop-variable.variable-index c.loop-variable.found c.requires c.variables-listed.ensures (omega arith) c.loop-variable.invariant (calm_basic c.args.tableau.now.rows c.args.columns.now)
    (λ i lt e least. least)

pub returns-clause-none : goal.returns-clause-none
returns-clause-none c =
    found_none (is_basic_out c.args.tableau.now.rows c.args.columns.now) c.args.suspects.now c.args.columns.now c.variables-listed.result.now c.loop-variable.variable-index c.loop-variable.found c.requires c.variables-listed.ensures (omega arith) c.loop-variable.invariant (calm_basic c.args.tableau.now.rows c.args.columns.now)
    (λ none. none)
