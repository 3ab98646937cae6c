use Rattle.std.proofs.Common.{◌≡◌, ◌-◌, length}
use Rattle.proof_form.specs.Asserted.{asserted_at}
use Rattle.proof_form.proofs.Going.{Judges}
use Rattle.proof_form.proofs.whole.judge_each.Given as goal

abbrev pub invariant-loop-next : goal.invariant-loop-next
invariant-loop-next l = (l.terms ≡ l.fn.terms) × Judges l.fn.terms (asserted_at l.fn.terms.held l.fn.asserted) l.fn.proof l.fn.place l.place l.number l.clauses

abbrev pub decreases-loop-next : goal.decreases-loop-next
decreases-loop-next l = length l.fn.proof - l.place
