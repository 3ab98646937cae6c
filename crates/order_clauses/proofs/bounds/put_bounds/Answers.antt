use Rattle.std.proofs.Common.{rules, ◌≡◌, [], ◌∷◌, ◌++◌, Contains, All, subst, ◌∙◌}
use Rattle.std.proofs.lemmas.List.{take_all}
use Rattle.std.proofs.lemmas.List.Elements.{All-more}
use Rattle.std.proofs.lemmas.Result.{err_from_is_err_and}
use Rattle.bound_clauses.specs.Orders.{bound_atom}
use Rattle.order_clauses.specs.Clauses.{bound_number, of_bound}
use Rattle.order_clauses.proofs.Causes.{one_order}
use Rattle.order_clauses.proofs.Steps.{map_step, flat_step}
use Rattle.order_clauses.proofs.bounds.put_bounds.Goals as goal

pub returns-in_err-number-clause-cause : goal.returns-in_err-number-clause-cause
returns-in_err-number-clause-cause g c =
    let p = err_from_is_err_and c.from_residual.result c.from_residual.ensures.1 in
    rw (p.1, p.2)
    (one_order g.trees c.args.atoms.now.atoms c.args.orders.now c.loop-order.order-index _ c.in_err-number.field-0.0 c.loop-order-test.true c.in_err-number.ensures.cause)

pub loop-order-preserved : goal.loop-order-preserved
loop-order-preserved g c =
    let table = c.args.atoms.now.atoms in
    let orders = c.args.orders.now in
    let k = c.loop-order.order-index in
    let pushed : c.push.new.self.items ≡ c.loop-order.numbers.items ++ c.in_ok-number.number ∷ [] = search rules in (
      c.put_bound.ensures.same ∙ c.loop-order.invariant.0,
      map_step orders k _ c.loop-order-test.true (bound_number g.trees table) c.loop-order.numbers.items c.push.new.self.items c.in_ok-number.number c.loop-order.invariant.1 pushed c.in_ok-number.ensures.found.number,
      All-more (λ o. Contains table (bound_atom g.trees o)) orders k _ c.loop-order-test.true c.loop-order.invariant.2 c.in_ok-number.ensures.found.has,
      flat_step orders k _ c.loop-order-test.true (of_bound g.trees table) c.args.clauses.now c.loop-order.clauses c.put_bound.new.clauses c.loop-order.invariant.3 c.in_ok-number.ensures.put,
    )

pub returns-clause-has : goal.returns-clause-has
returns-clause-has g c =
    subst (All (λ o. Contains c.args.atoms.now.atoms (bound_atom g.trees o))) (take_all c.loop-order.order-index c.args.orders.now c.loop-order-test.false) c.loop-order.invariant.2
