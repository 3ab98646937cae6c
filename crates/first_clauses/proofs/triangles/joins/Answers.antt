use Rattle.std.proofs.Common.{sym}
use Rattle.first_clauses.proofs.triangles.joins.Goals as goal

pub returns : goal.returns
returns c = λ t v e f. c.leads-2.ensures t v (sym e) f
