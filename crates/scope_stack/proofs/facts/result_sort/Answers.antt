use Rattle.scope_stack.proofs.FactLemmas.{found_result, unfound_result}
use Rattle.scope_stack.proofs.facts.result_sort.Goals as goal

pub returns-in-Some : goal.returns-in-Some
returns-in-Some c = rw c.rank.ensures (found_result c.args.table.now c.args.symbol c.in-Some.found.now c.in-Some.ensures.some)

pub returns-in-None : goal.returns-in-None
returns-in-None c = unfound_result c.args.table.now c.args.symbol _ c.in-None.ensures.none
