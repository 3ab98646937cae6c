use Rattle.simplex_steps.proofs.TableRows as TableRows
use Rattle.simplex_steps.proofs.tables_have_rows.Goals as goal

pub returns : goal.returns
returns c = TableRows.tables_have_rows
