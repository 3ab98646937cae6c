use Rattle.std.proofs.Common.{drop}
use Rattle.linear_forms.specs.Folding.{form_of, IsMultiplying}
use Rattle.linear_forms.specs.Entries.{knowns, forms_at}
use Rattle.linear_forms.proofs.products.fold_product.Given as goal

abbrev pub invariant-loop-place : goal.invariant-loop-place
invariant-loop-place l =
    IsMultiplying (forms_at (knowns l.all l.entries) l.arguments) (forms_at (knowns l.all l.entries) (drop l.place-index l.arguments)) (form_of l.product.items l.constant)
