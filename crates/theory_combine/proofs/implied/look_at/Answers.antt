use Rattle.std.proofs.Common.{◌∙◌, List, sym, subst}
use Rattle.literals.specs.Signed.{Signed}
use Rattle.search_port.specs.State.{IsOpenIn}
use Rattle.theory_combine.proofs.Chained.{keeps_grid}
use Rattle.theory_combine.proofs.Following.{if_some, implied_met}
use Rattle.theory_combine.proofs.implied.look_at.Goals as goal

pub implied-requires-clause-open : goal.implied-requires-clause-open
implied-requires-clause-open c = λ l same.
    subst (λ (ls : List Signed). IsOpenIn ls l) (c.deref-2.ensures.value ∙ sym c.requires.held.held.same) (c.is_open.ensures c.if-not-is_open.false l same)

pub returns-clause-found : goal.returns-clause-found
returns-clause-found c =
    if_some c.implied.result
    (λ d i. implied_met c.flat_says_the_same.ensures c.args.stack.now c.args.atoms.now.atoms c.args.held.now d c.requires.held.setting c.requires.held.held i)
    c.implied.ensures.clause

pub returns-clause-variables : goal.returns-clause-variables
returns-clause-variables c = keeps_grid c.values_stay.ensures c.args.held.now.bounds c.implied.new.self c.implied.ensures.variables c.implied.ensures.table c.implied.ensures.values
