use Rattle.proof_terms.proofs.TermBounds.{refused, refused_below, if_ok, if_err}
use Rattle.proof_terms.proofs.terms_bounds.bound.Goals as goal

pub returns-in-Undivided-clause-ok : goal.returns-in-Undivided-clause-ok
returns-in-Undivided-clause-ok c = λ trees h. rw c.in-Undivided.is (c.undivided.ensures.ok trees h)

pub returns-in-Undivided-clause-err : goal.returns-in-Undivided-clause-err
returns-in-Undivided-clause-err c = λ trees h.
    rw c.in-Undivided.is (if_err c.undivided.result _ _ (c.undivided.ensures.err trees h) (λ e r. refused trees c.args.left c.args.right e r))

pub returns-in-NotAbove-clause-ok : goal.returns-in-NotAbove-clause-ok
returns-in-NotAbove-clause-ok c = λ trees h. rw c.in-NotAbove.is (if_ok c.at_most.result _ _ (c.at_most.ensures.ok trees h) (λ k b. record { fits = b.fits; bound = b.bound }))

pub returns-in-NotAbove-clause-err : goal.returns-in-NotAbove-clause-err
returns-in-NotAbove-clause-err c = λ trees h. rw c.in-NotAbove.is (if_err c.at_most.result _ _ (c.at_most.ensures.err trees h) (λ e r. refused trees c.args.left c.args.right e r))

pub returns-in-Below-clause-ok : goal.returns-in-Below-clause-ok
returns-in-Below-clause-ok c = λ trees h. rw c.in-Below.is (if_ok c.below.result _ _ (c.below.ensures.ok trees h) (λ k b. record { fits = b.fits; bound = b.bound }))

pub returns-in-Below-clause-err : goal.returns-in-Below-clause-err
returns-in-Below-clause-err c = λ trees h. rw c.in-Below.is (if_err c.below.result _ _ (c.below.ensures.err trees h) (λ e r. refused_below trees c.args.left c.args.right e r))
