use Rattle.std.proofs.Common.{refl, subst}
use Rattle.search_port.specs.declared.budget.Lemma.{Lemma}
use Rattle.cdcl_core.specs.Turns.{IsAccounted}
use Rattle.cdcl_core.proofs.Adding.{partly-same}
use Rattle.cdcl_core.proofs.Gains.{among-same, gains-among}
use Rattle.cdcl_core.proofs.put.put_down.Goals as goal

pub returns-then-at_limit-clause-ends : goal.returns-then-at_limit-clause-ends
returns-then-at_limit-clause-ends g c = (refl, refl, refl, c.at_limit.ensures.yes c.if-at_limit.true)

pub returns-in_default-clause-ends : goal.returns-in_default-clause-ends
returns-in_default-clause-ends g c = ((λ k among. among), partly-same c.args.budget.now)

pub returns-in_default-insert-clause-ends : goal.returns-in_default-insert-clause-ends
returns-in_default-insert-clause-ends g c = (among-same c.args.store.now.clauses c.insert.new.store.clauses c.in_default-insert.ensures.same, partly-same c.args.budget.now)

pub returns-clause-ends : goal.returns-clause-ends
returns-clause-ends g c = (gains-among c.args.store.now.clauses c.insert.new.store.clauses c.args.clause c.in-Ok-insert.ensures.gains, c.in-Err.ensures.same)

pub returns-in-Ok-account-clause-put : goal.returns-in-Ok-account-clause-put
returns-in-Ok-account-clause-put g c = subst (λ (x : Lemma). IsAccounted c.args.budget.now c.account.new.budget x) c.in-Ok.ensures c.in-Ok-account.ensures.put
