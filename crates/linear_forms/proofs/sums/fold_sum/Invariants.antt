use Rattle.std.proofs.Common.{drop, length}
use Rattle.linear_forms.specs.Entries.{knowns, forms_at}
use Rattle.linear_forms.proofs.FoldLemmas.{FoldsOn}
use Rattle.linear_forms.proofs.sums.fold_sum.Given as goal

abbrev pub invariant-loop-i : goal.invariant-loop-i
invariant-loop-i l =
    FoldsOn (length l.fn.values) l.subtract (forms_at (knowns l.all l.entries) l.arguments) (forms_at (knowns l.all l.entries) (drop l.i l.arguments)) l.values l.touched.items l.constant
