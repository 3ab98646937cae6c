use Rattle.closure_log.proofs.Odd.{odd_clause}
use Rattle.closure_log.proofs.odd_laws.odd_clause_is_true.Goals as goal

pub returns : goal.returns
returns c = odd_clause c.value_has_its_sort.ensures
