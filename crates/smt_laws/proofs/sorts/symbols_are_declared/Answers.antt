use Rattle.smt_laws.proofs.BelowLaw.{symbols_are_declared}
use Rattle.smt_laws.proofs.sorts.symbols_are_declared.Goals as goal

pub returns : goal.returns
returns c = symbols_are_declared
