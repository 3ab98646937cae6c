use Rattle.std.proofs.Common.{ap, ◌∙◌}
use Rattle.term_store.proofs.StoreLemmas.{some_with, none_with}
use Rattle.smt_sorts.proofs.TableLemmas.{signature_is}
use Rattle.smt_sorts.proofs.PlaceLemmas.{found_function}
use Rattle.smt_meaning.specs.Signature.{find_function}
use Rattle.smt_sorts.proofs.table.Table.lookup.Goals as goal

pub returns-clause-some : goal.returns-clause-some
returns-clause-some c =
    rw (← c.self.view_is)
    (some_with c.find.result _ _ (λ d h. ap (find_function c.args.name.now) (signature_is c.self.inside.count c.self.inside.given c.self.inside.base c.self.inside.entries c.self.invariant.0) ∙ found_function c.args.name.now c.self.inside.entries.declarations ∙ h) c.find.ensures.some)

pub returns-clause-none : goal.returns-clause-none
returns-clause-none c =
    rw (← c.self.view_is)
    (none_with c.find.result _ _ (λ h. ap (find_function c.args.name.now) (signature_is c.self.inside.count c.self.inside.given c.self.inside.base c.self.inside.entries c.self.invariant.0) ∙ found_function c.args.name.now c.self.inside.entries.declarations ∙ h) c.find.ensures.none)
