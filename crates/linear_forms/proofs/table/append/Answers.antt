use Rattle.std.proofs.Common.{◌≡◌, ◌∷◌, ◌++◌, [], ◌∙◌, ap, length, subst, sym, to_z, of_z}
use Rattle.std.specs.Int.{w128}
use Rattle.std.proofs.lemmas.Int.{to_z-of_z}
use Rattle.linear_forms.specs.Folding.{form_of}
use Rattle.linear_forms.specs.Entries.{knowns, AreLaid}
use Rattle.linear_forms.proofs.TableLemmas.{of_two, either_way, on_err, laid_push, knowns_push}
use Rattle.linear_forms.proofs.table.append.Goals as goal

pub returns-clause-laid : goal.returns-clause-laid
returns-clause-laid c =
    either_way c.append_parts.result _ _ _ _ c.append_parts.ensures.summands c.append_parts.ensures.entries c.append_parts.ensures.err
    (λ a b. laid_push c.args.all.now.items c.args.entries.now.items c.requires c.args.sum.now (to_z w128 (of_z w128 c.args.constant)) c.args.outside c.append_parts.new.all.items a c.append_parts.new.entries.items b)
    (λ e. subst (λ xs. AreLaid (length xs) c.append_parts.new.entries.items) (sym e.0) (subst (AreLaid (length c.args.all.now.items)) (sym e.1) c.requires))

pub returns-clause-ok : goal.returns-clause-ok
returns-clause-ok c =
    of_two c.append_parts.result _ _ _ c.append_parts.ensures.summands c.append_parts.ensures.entries
    (λ a b.
    subst
    (λ z. knowns c.append_parts.new.all.items c.append_parts.new.entries.items ≡ knowns c.args.all.now.items c.args.entries.now.items ++ record { form = form_of c.args.sum.now z; outside = c.args.outside } ∷ [])
    (to_z-of_z w128 c.args.constant c.ranges.constant)
    (knowns_push c.args.all.now.items c.args.entries.now.items c.requires c.args.sum.now (to_z w128 (of_z w128 c.args.constant)) c.args.outside c.append_parts.new.all.items a c.append_parts.new.entries.items b))

pub returns-clause-err : goal.returns-clause-err
returns-clause-err c =
    on_err c.append_parts.result _ _ c.append_parts.ensures.err (λ e. ap (λ xs. knowns xs c.append_parts.new.entries.items) e.0 ∙ ap (knowns c.args.all.now.items) e.1)
