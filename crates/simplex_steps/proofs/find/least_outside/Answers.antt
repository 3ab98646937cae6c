use Rattle.std.proofs.Common.{arith}
use Rattle.simplex_steps.proofs.SuspectLemmas.{is_free_out, calm_free, free_out, settled_to, all_settled, listed_at, chosen_more, found_some, found_none}
use Rattle.simplex_steps.proofs.find.least_outside.Goals as goal

pub is_free_outside-requires : goal.is_free_outside-requires
is_free_outside-requires c = listed_at c.args.suspects.now c.args.columns.now c.variables-listed.result.now c.loop-variable.variable-index c.requires c.variables-listed.ensures (omega arith)

pub loop-variable-preserved : goal.loop-variable-preserved
loop-variable-preserved c =
    chosen_more (is_free_out c.args.tableau.now.rows c.args.columns.now) c.variables-listed.result.now c.loop-variable.variable-index c.loop-variable.found c.lesser-found.result c.is_free_outside.result (omega arith) c.loop-variable.invariant
    (c.is_free_outside.ensures) c.lesser-found.ensures

pub returns-clause-known : goal.returns-clause-known
returns-clause-known c =
    found_some (is_free_out c.args.tableau.now.rows c.args.columns.now) c.args.suspects.now c.args.columns.now c.variables-listed.result.now c.loop-variable.variable-index c.loop-variable.found c.requires c.variables-listed.ensures (omega arith) c.loop-variable.invariant (calm_free c.args.tableau.now.rows c.args.columns.now)
    (λ i lt e least. lt)

pub returns-clause-outside : goal.returns-clause-outside
returns-clause-outside c =
    found_some (is_free_out c.args.tableau.now.rows c.args.columns.now) c.args.suspects.now c.args.columns.now c.variables-listed.result.now c.loop-variable.variable-index c.loop-variable.found c.requires c.variables-listed.ensures (omega arith) c.loop-variable.invariant (calm_free c.args.tableau.now.rows c.args.columns.now)
    (λ i lt e least. (free_out c.args.tableau.now.rows c.args.columns.now i e).0)

pub returns-clause-free : goal.returns-clause-free
returns-clause-free c =
    found_some (is_free_out c.args.tableau.now.rows c.args.columns.now) c.args.suspects.now c.args.columns.now c.variables-listed.result.now c.loop-variable.variable-index c.loop-variable.found c.requires c.variables-listed.ensures (omega arith) c.loop-variable.invariant (calm_free c.args.tableau.now.rows c.args.columns.now)
    (λ i lt e least. (free_out c.args.tableau.now.rows c.args.columns.now i e).1)

pub returns-clause-settled : goal.returns-clause-settled
returns-clause-settled c =
    found_some (is_free_out c.args.tableau.now.rows c.args.columns.now) c.args.suspects.now c.args.columns.now c.variables-listed.result.now c.loop-variable.variable-index c.loop-variable.found c.requires c.variables-listed.ensures (omega arith) c.loop-variable.invariant (calm_free c.args.tableau.now.rows c.args.columns.now)
    (λ i lt e least. settled_to c.args.tableau.now c.args.columns.now i lt least)

pub returns-clause-none : goal.returns-clause-none
returns-clause-none c =
    found_none (is_free_out c.args.tableau.now.rows c.args.columns.now) c.args.suspects.now c.args.columns.now c.variables-listed.result.now c.loop-variable.variable-index c.loop-variable.found c.requires c.variables-listed.ensures (omega arith) c.loop-variable.invariant (calm_free c.args.tableau.now.rows c.args.columns.now)
    (λ none. all_settled c.args.tableau.now c.args.columns.now none)
