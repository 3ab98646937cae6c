use Rattle.atom_form.specs.Sums.{sums_in}
use Rattle.atom_form.proofs.SumTableNumbering.{Passed}
use Rattle.atom_form.proofs.sum_table.find.Given as goal

abbrev pub invariant-loop-link : goal.invariant-loop-link
invariant-loop-link l = Passed (sums_in l.all l.spans) l.keys l.sum l.hash l.link

abbrev pub decreases-loop-link : goal.decreases-loop-link
decreases-loop-link l = l.link
