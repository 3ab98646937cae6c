use Rattle.scope_stack.proofs.LevelSteps.{no_symbol, declared_head, other_head}
use Rattle.scope_stack.proofs.facts.head_level.Goals as goal

pub returns-in-Some : goal.returns-in-Some
returns-in-Some c = rw c.in-Symbol.is (declared_head c.args.table.now c.in-Symbol.symbol c.in-Some.level c.in-Some.ensures.some)

pub returns-in-None : goal.returns-in-None
returns-in-None c = rw c.in-Symbol.is (other_head c.args.table.now c.in-Symbol.symbol c.in-None.ensures.none)

pub returns-in-Theory : goal.returns-in-Theory
returns-in-Theory c = rw c.in-Theory.is (λ declared. no_symbol c.args.table.now)

pub returns-in-Numeral : goal.returns-in-Numeral
returns-in-Numeral c = rw c.in-Numeral.is (λ declared. no_symbol c.args.table.now)

pub returns-in-Place : goal.returns-in-Place
returns-in-Place c = rw c.in-Place.is (λ declared. no_symbol c.args.table.now)
