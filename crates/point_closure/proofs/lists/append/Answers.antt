use Rattle.std.proofs.Common.{sym, ap, ◌∙◌, ◌++◌}
use Rattle.point_closure.specs.Lists.{items_at}
use Rattle.point_closure.proofs.ListsLemmas.{items_get, append_other, append_here, away, ok_when, err_when}
use Rattle.point_closure.proofs.lists.append.Goals as goal

pub returns-clause-others : goal.returns-clause-others
returns-clause-others c = λ r other.
    append_other c.args.lists.now.items c.args.kept c.args.gone r c.replace-more.new.dest c.extend_from_slice-done.new.self c.replace-more.result c.requires.gone c.requires.different
    (items_get c.args.lists.now.items c.args.gone c.index_mut.result.now c.requires.gone ∙ ap (λ v. v.items) (sym c.index_mut.ensures.value) ∙ ap (λ v. v.items) (sym c.replace-more.ensures.value)) other

pub returns-clause-ok : goal.returns-clause-ok
returns-clause-ok c = ok_when c.extend_from_slice-done.result _ (λ ok.
    append_here c.args.lists.now.items c.args.kept c.args.gone c.replace-more.new.dest c.extend_from_slice-done.new.self c.replace-more.result c.requires.kept c.requires.different
    ∙ c.extend_from_slice-done.ensures.items ∙ rw (ok, c.deref.ensures.value, c.replace-more.ensures.value)
    (ap (λ l. l ++ c.index_mut.result.now.items) (ap (λ v. v.items) c.index_mut-2.ensures.value ∙ sym (away c.args.lists.now.items c.args.kept c.args.gone c.replace-more.new.dest c.index_mut-2.result.now c.requires.kept c.requires.different))
    ∙ ap (λ l. items_at c.args.lists.now.items c.args.kept ++ l) (ap (λ v. v.items) c.index_mut.ensures.value ∙ sym (items_get c.args.lists.now.items c.args.gone c.index_mut.result.now c.requires.gone))))

pub returns-clause-err : goal.returns-clause-err
returns-clause-err c = err_when c.extend_from_slice-done.result _ (λ err.
    append_here c.args.lists.now.items c.args.kept c.args.gone c.replace-more.new.dest c.extend_from_slice-done.new.self c.replace-more.result c.requires.kept c.requires.different
    ∙ c.extend_from_slice-done.ensures.items ∙ rw err (ap (λ v. v.items) c.index_mut-2.ensures.value ∙ sym (away c.args.lists.now.items c.args.kept c.args.gone c.replace-more.new.dest c.index_mut-2.result.now c.requires.kept c.requires.different)))
