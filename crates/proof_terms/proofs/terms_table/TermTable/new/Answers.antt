use Rattle.std.proofs.Common.{refl, ap}
use Rattle.term_store.specs.Terms.{Terms}
use Rattle.proof_terms.proofs.TermEntering.{nothing_filed}
use Rattle.proof_terms.proofs.terms_table.TermTable.new.Goals as goal

pub returns-clause-table : goal.returns-clause-table
returns-clause-table c = λ ds. record {
  filed = nothing_filed ds c.args.held.trees c.new.result c.new-2.result.items c.new-3.result.trees c.new-4.result.items c.new.ensures c.new-2.ensures.items (ap (λ (s : Terms). s.trees) c.new-3.ensures) c.new-4.ensures.items;
  held = refl;
  complete = c.len.ensures.parts;
  held_different = c.len.ensures.different;
  forms = c.new-5.ensures.forms c.new-3.result.trees;
}
