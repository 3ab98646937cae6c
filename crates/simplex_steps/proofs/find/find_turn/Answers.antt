use Rattle.std.proofs.Common.{sym, subst}
use Rattle.fraction128.specs.declared.Column.{Column}
use Rattle.fraction128.proofs.Integers.{same_bits}
use Rattle.tableau.specs.Table.{row_at}
use Rattle.simplex_steps.specs.State.{column_in}
use Rattle.simplex_steps.specs.Conflict.{IsTarget}
use Rattle.simplex_steps.proofs.Columns.{column_at_basic}
use Rattle.simplex_steps.proofs.Next.{turn_found, stuck_next}
use Rattle.simplex_steps.proofs.find.find_turn.Goals as goal

pub explain_row-requires-clause-target : goal.explain_row-requires-clause-target
explain_row-requires-clause-target c =
    subst (λ n. IsTarget (column_in c.args.columns.now (row_at c.args.tableau.now.rows c.args.place).basic) n c.target-number.result.1) (sym (same_bits c.target-number.result.0 c.target-number.ensures.in_range))
    (subst (λ (x : Column). IsTarget x c.target-number.result.0 c.target-number.result.1)
    (column_at_basic c.args.tableau.now c.args.columns.now c.args.place c.basic-basic.result c.index-columns-basic.result c.requires.sound.solution.count c.basic-basic.ensures.value c.basic-basic.ensures.known c.index-columns-basic.is)
    c.target-number.ensures)

pub returns-in-Some : goal.returns-in-Some
returns-in-Some c =
    turn_found c.args.tableau.now c.args.columns.now (record { place = c.args.place; number = _; entering = c.in-Some.entering }) c.target-number.result.1 c.facts.ensures c.requires.sound c.requires.settled c.requires.least
    (subst (λ n. IsTarget (column_in c.args.columns.now (row_at c.args.tableau.now.rows c.args.place).basic) n c.target-number.result.1) (sym (same_bits c.target-number.result.0 c.target-number.ensures.in_range))
    (subst (λ (x : Column). IsTarget x c.target-number.result.0 c.target-number.result.1)
    (column_at_basic c.args.tableau.now c.args.columns.now c.args.place c.basic-basic.result c.index-columns-basic.result c.requires.sound.solution.count c.basic-basic.ensures.value c.basic-basic.ensures.known c.index-columns-basic.is)
    c.target-number.ensures))
    c.in-Some.ensures.known c.in-Some.ensures.entry c.in-Some.ensures.some

pub returns-in_ok-explain_row-in-None : goal.returns-in_ok-explain_row-in-None
returns-in_ok-explain_row-in-None c = (
  stuck_next c.args.tableau.now c.args.columns.now c.args.place c.target-number.result.0 c.target-number.result.1 c.facts.ensures c.requires.sound c.requires.settled c.requires.least
      (subst (λ (x : Column). IsTarget x c.target-number.result.0 c.target-number.result.1)
      (column_at_basic c.args.tableau.now c.args.columns.now c.args.place c.basic-basic.result c.index-columns-basic.result c.requires.sound.solution.count c.basic-basic.ensures.value c.basic-basic.ensures.known c.index-columns-basic.is)
      c.target-number.ensures)
      c.in-None.ensures.none,
  c.in_ok-explain_row-in-None.ensures,
)
