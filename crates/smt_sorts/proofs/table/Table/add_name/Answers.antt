use Rattle.std.proofs.Common.{[], ◌∷◌, ◌++◌, refl, sym, ap, ◌∙◌}
use Rattle.smt_sorts.proofs.TableLemmas.{HasGained-declared, signature-named}
use Rattle.smt_sorts.proofs.PlaceLemmas.{found_function}
use Rattle.smt_sorts.specs.Names.{signature}
use Rattle.smt_meaning.specs.Declaration.{Declaration}
use Rattle.smt_sorts.proofs.table.Table.add_name.Goals as goal

pub add-requires-clause-new : goal.add-requires-clause-new
add-requires-clause-new c = rw (c.name_of_term.ensures, c.in_ok-name.ensures) (sym (found_function c.args.name.now (signature c.args.self.now)) ∙ c.requires)

pub returns-clause-signature : goal.returns-clause-signature
returns-clause-signature c =
    signature-named c.name_of_term.result c.args.self.now c.add.new.self c.in_ok-add.ensures.some_level c.in_ok-add.ensures.ok
    ∙ ap (λ (d : Declaration). signature c.args.self.now ++ d ∷ []) (rw (c.name_of_term.ensures, c.in_ok-id.ensures.id, c.in_ok-name.ensures) refl)

pub returns-clause-gained : goal.returns-clause-gained
returns-clause-gained c =
    λ t h. HasGained-declared t c.args.self.now c.add.new.self c.name_of_term.result h c.in_ok-add.ensures.ok (signature-named c.name_of_term.result c.args.self.now c.add.new.self c.in_ok-add.ensures.some_level c.in_ok-add.ensures.ok)
    (ap (λ (d : Declaration). d.id) c.name_of_term.ensures ∙ c.in_ok-id.ensures.id)
