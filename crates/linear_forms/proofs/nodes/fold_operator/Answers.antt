use Rattle.std.proofs.Common.{sym, subst}
use Rattle.smt_meaning.specs.declared.terms.Head.TheVariants.{Theory}
use Rattle.linear_forms.specs.Folding.{form_of, IsFolded}
use Rattle.linear_forms.specs.Entries.{knowns, forms_at}
use Rattle.linear_forms.proofs.NodeLemmas.{each_of_three, folded_add, folded_subtract, folded_multiply}
use Rattle.linear_forms.proofs.nodes.fold_operator.Goals as goal

pub returns-in-Add-clause-ok : goal.returns-in-Add-clause-ok
returns-in-Add-clause-ok c =
    each_of_three c.fold_combined.result _ _ _ _ c.fold_combined.ensures.ok c.fold_combined.ensures.fits c.fold_combined.ensures.ranges (λ n e f r.
    subst (λ o. IsFolded (Theory o) (forms_at (knowns c.args.all.now c.args.entries.now) c.args.arguments.now) c.args.place (form_of c.fold_combined.new.work.sum.items n)) (sym c.in-Add.is)
    (folded_add c.args.place (knowns c.args.all.now c.args.entries.now) c.args.arguments.now c.requires.sums (form_of c.fold_combined.new.work.sum.items n) f e r))

pub returns-in-Subtract-clause-ok : goal.returns-in-Subtract-clause-ok
returns-in-Subtract-clause-ok c =
    each_of_three c.fold_combined-in-Subtract.result _ _ _ _ c.fold_combined-in-Subtract.ensures.ok c.fold_combined-in-Subtract.ensures.fits c.fold_combined-in-Subtract.ensures.ranges (λ n e f r.
    subst (λ o. IsFolded (Theory o) (forms_at (knowns c.args.all.now c.args.entries.now) c.args.arguments.now) c.args.place (form_of c.fold_combined-in-Subtract.new.work.sum.items n)) (sym c.in-Subtract.is)
    (folded_subtract c.args.place (knowns c.args.all.now c.args.entries.now) c.args.arguments.now c.requires.sums (form_of c.fold_combined-in-Subtract.new.work.sum.items n) f e r))

pub returns-in-Multiply-clause-ok : goal.returns-in-Multiply-clause-ok
returns-in-Multiply-clause-ok c =
    each_of_three c.fold_product.result _ _ _ _ c.fold_product.ensures.ok c.fold_product.ensures.fits c.fold_product.ensures.ranges (λ n e f r.
    subst (λ o. IsFolded (Theory o) (forms_at (knowns c.args.all.now c.args.entries.now) c.args.arguments.now) c.args.place (form_of c.fold_product.new.product.items n)) (sym c.in-Multiply.is)
    (folded_multiply c.args.place (knowns c.args.all.now c.args.entries.now) c.args.arguments.now c.requires.sums (form_of c.fold_product.new.product.items n) f e r))
