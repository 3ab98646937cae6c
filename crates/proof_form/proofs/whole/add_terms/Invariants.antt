use Rattle.std.proofs.Common.{◌-◌, length}
use Rattle.proof_form.proofs.Going.{Adds}
use Rattle.proof_form.proofs.whole.add_terms.Given as goal

abbrev pub invariant-loop-next : goal.invariant-loop-next
invariant-loop-next l = Adds l.fn.terms.declared l.fn.terms.held l.fn.proof l.fn.place l.place l.number l.terms

abbrev pub decreases-loop-next : goal.decreases-loop-next
decreases-loop-next l = length l.fn.proof - l.place
