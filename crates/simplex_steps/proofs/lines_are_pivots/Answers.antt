use Rattle.simplex_steps.proofs.Lines as Lines
use Rattle.simplex_steps.proofs.lines_are_pivots.Goals as goal

pub returns-clause-pivots : goal.returns-clause-pivots
returns-clause-pivots c = Lines.lines_are_pivots

pub returns-clause-series : goal.returns-clause-series
returns-clause-series c = Lines.lines_go_on

pub returns-clause-rows : goal.returns-clause-rows
returns-clause-rows c = Lines.lines_are_rows
