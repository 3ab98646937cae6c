use Rattle.std.proofs.Common.{length}
use Rattle.linear_forms.specs.Entries.{knowns}
use Rattle.linear_forms.specs.Multiples.{form_in}
use Rattle.linear_forms.proofs.MultipleLemmas.{AddsUp}
use Rattle.linear_forms.proofs.multiples.fold_multiples.Given as goal

abbrev pub invariant-loop-i : goal.invariant-loop-i
invariant-loop-i l = AddsUp (length l.fn.values) (form_in (knowns l.all l.entries)) l.multiples l.i l.values l.touched.items l.constant

abbrev pub decreases-loop-i : goal.decreases-loop-i
decreases-loop-i l = l.i
