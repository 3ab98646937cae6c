use Rattle.std.proofs.Common.{arith}
use Rattle.tableau.proofs.Lists.{is_there}
use Rattle.tableau.proofs.holders.is_at.Goals as goal

pub returns-then-here-entries : goal.returns-then-here-entries
returns-then-here-entries c = λ e. is_there c.args.entries.now c.args.here c.args.variable c.index-entries-here.result (omega arith) e
