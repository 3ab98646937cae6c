use Rattle.std.proofs.Common.{List, Contains, refl, sym, subst}
use Rattle.literals.specs.Signed.{Signed}
use Rattle.search_port.specs.State.{AllFalseIn, IsMadeTrue}
use Rattle.search_port.specs.declared.budget.Lemma.{Lemma}
use Rattle.theory_combine.proofs.Settling.{more_hold}
use Rattle.theory_combine.proofs.settled.first_false.Goals as goal

pub returns-then-are_false-clause-some : goal.returns-then-are_false-clause-some
returns-then-are_false-clause-some c =
    let log = c.args.held.now.closure.log.items in
    let clause = c.clause-item.result in
    let is_false : AllFalseIn log clause.literals = subst (λ (ls : List Signed). AllFalseIn log ls) c.as_slice.ensures (c.if-are_false.ensures.yes refl) in
    subst (λ (d : Lemma). Contains c.args.clauses.now d × AllFalseIn log d.literals) (sym c.in_ok-copy.ensures)
    ((c.loop-clause.clause-index, c.loop-clause-test.true, sym c.clause-item.is), is_false)

pub loop-clause-preserved : goal.loop-clause-preserved
loop-clause-preserved c =
    more_hold (λ (d : Lemma). IsMadeTrue c.args.held.now.closure.log.items d.literals) c.args.clauses.now c.loop-clause.clause-index c.clause-item.result c.loop-clause-test.true c.clause-item.is
    (subst (λ (ls : List Signed). IsMadeTrue c.args.held.now.closure.log.items ls) c.as_slice.ensures (c.if-are_false.ensures.no refl)) c.loop-clause.invariant
