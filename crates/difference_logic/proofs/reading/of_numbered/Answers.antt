use Rattle.std.proofs.Common.{ap, ◌∙◌, subst, sym}
use Rattle.std.specs.Prelude.{IfSome}
use Rattle.smt_meaning.specs.declared.clauses.Atom.TheVariants.{Truth, AtMost}
use Rattle.search_port.specs.State.{atom_at}
use Rattle.difference_logic.specs.Differences.{SaysOf}
use Rattle.difference_logic.proofs.Saying.{says_some}
use Rattle.difference_logic.proofs.reading.of_numbered.Goals as goal

pub returns-in-Bound : goal.returns-in-Bound
returns-in-Bound c =
    says_some c.args.atoms.now.atoms c.args.literal c.sum.result.now c.in-Bound.bound.threshold c.of_sum.result
    (ap (atom_at c.args.atoms.now.atoms) (sym c.atom.ensures) ∙ c.in-Bound.ensures.atom.1 (Truth 0) ∙ ap (λ s. AtMost s c.in-Bound.bound.threshold) (c.sum.ensures.1 _))
    (subst (λ b. IfSome c.of_sum.result (SaysOf c.sum.result.now c.in-Bound.bound.threshold b)) c.is_positive.ensures c.of_sum.ensures)
