use Rattle.std.proofs.Common.{sym, ◌∙◌}
use Rattle.smt_sorts.proofs.TableLemmas.{signature_is}
use Rattle.smt_sorts.proofs.table.Table.declarations.Goals as goal

pub returns : goal.returns
returns c = rw (← c.self.view_is) (c.declarations.ensures.value ∙ sym (signature_is c.self.inside.count c.self.inside.given c.self.inside.base c.self.inside.entries c.self.invariant.0))
