use Rattle.atom_form.proofs.Links.{Passed}
use Rattle.atom_form.proofs.bound_table.find.Given as goal

abbrev pub invariant-loop-link : goal.invariant-loop-link
invariant-loop-link l = Passed l.bounds l.keys l.bound l.hash l.link

abbrev pub decreases-loop-link : goal.decreases-loop-link
decreases-loop-link l = l.link
