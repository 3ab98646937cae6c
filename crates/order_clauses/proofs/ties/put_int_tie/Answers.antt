use Rattle.std.proofs.Common.{[], ◌∷◌, Contains, subst, arith}
use Rattle.std.proofs.lemmas.List.Elements.{All-cons, All-nil}
use Rattle.std.proofs.lemmas.Result.{err_from_is_err_and}
use Rattle.bound_clauses.specs.declared.orders.Sense.TheVariants.{NotAbove}
use Rattle.bound_clauses.specs.Orders.{order, bound_atom}
use Rattle.order_clauses.specs.Pairs.{orders_of_pair}
use Rattle.order_clauses.specs.Errors.{IsCause}
use Rattle.order_clauses.proofs.Causes.{one_order}
use Rattle.order_clauses.proofs.ties.put_int_tie.Goals as goal

pub returns-in_err-below-clause-cause : goal.returns-in_err-below-clause-cause
returns-in_err-below-clause-cause g c =
    let p = err_from_is_err_and c.from_residual.result c.from_residual.ensures.1 in
    rw (p.1, p.2)
    (one_order g.trees c.args.atoms.now.atoms (orders_of_pair c.args.pair) 0 c.not_above.result c.in_err-below.field-0.0 (omega arith)
    (subst (λ o. IsCause g.trees c.args.atoms.now.atoms (o ∷ []) (bound_atom g.trees o ∷ []) c.in_err-below.field-0.0) c.not_above.ensures c.in_err-below.ensures.cause))

pub returns-in_err-above-clause-cause : goal.returns-in_err-above-clause-cause
returns-in_err-above-clause-cause g c =
    let p = err_from_is_err_and c.from_residual-in_err-above.result c.from_residual-in_err-above.ensures.1 in
    rw (p.1, p.2)
    (one_order g.trees c.args.atoms.now.atoms (orders_of_pair c.args.pair) 1 c.not_above-2.result c.in_err-above.field-0.0 (omega arith)
    (subst (λ o. IsCause g.trees c.args.atoms.now.atoms (o ∷ []) (bound_atom g.trees o ∷ []) c.in_err-above.field-0.0) c.not_above-2.ensures c.in_err-above.ensures.cause))

pub returns-clause-has : goal.returns-clause-has
returns-clause-has g c =
    let known = Contains c.args.atoms.now.atoms in
    let below = order NotAbove c.args.pair.left c.args.pair.right in
    let above = order NotAbove c.args.pair.right c.args.pair.left in
    All-cons known (bound_atom g.trees below) (bound_atom g.trees above ∷ []) (subst (λ o. known (bound_atom g.trees o)) c.not_above.ensures c.in_ok-below.ensures.found.has)
    (All-cons known (bound_atom g.trees above) [] (subst (λ o. known (bound_atom g.trees o)) c.not_above-2.ensures c.in_ok-above.ensures.found.has) (All-nil known))
