use Rattle.std.proofs.Common.{rules, ◌≡◌, ◌<◌, ◌≤◌, ◌^◌, map, length, Contains, All, subst, ap, ◌∙◌, arith}
use Rattle.std.proofs.lemmas.List.Elements.{All-head, All-cons, All-map, All-same, All-weaker}
use Rattle.std.proofs.lemmas.Result.{err_from_is_err_and}
use Rattle.smt_meaning.specs.declared.clauses.Atom.TheVariants.{Truth}
use Rattle.bound_clauses.specs.declared.orders.Order.{Order}
use Rattle.bound_clauses.specs.Orders.{order_atoms, bound_atom}
use Rattle.order_clauses.specs.Clauses.{bound_number}
use Rattle.order_clauses.specs.Needed.{atoms_of_order}
use Rattle.order_clauses.proofs.Causes.{by_missing, behind}
use Rattle.order_clauses.proofs.Pairing.{orders_both}
use Rattle.order_clauses.proofs.Soundness.{numbers_within}
use Rattle.order_clauses.proofs.parts.put_order_part.Goals as goal

pub returns-in_err-number-clause-cause : goal.returns-in_err-number-clause-cause
returns-in_err-number-clause-cause g c =
    let p = err_from_is_err_and c.from_residual.result c.from_residual.ensures.1 in
    rw (p.1, p.2)
    (by_missing g.trees c.args.atoms.now.atoms (order_atoms c.args.operator c.args.arguments.now) (atoms_of_order g.trees c.args.operator c.args.place c.args.arguments.now) c.in_err-number.field-0.0 c.in_err-number.ensures.err.0
    (λ all. c.in_err-number.ensures.err.1 (All-head (Contains c.args.atoms.now.atoms) (Truth c.args.place) (map (bound_atom g.trees) (order_atoms c.args.operator c.args.arguments.now)) all)))

pub put_bounds-requires : goal.put_bounds-requires
put_bounds-requires g c =
    let listed : c.deref.result.now ≡ order_atoms c.args.operator c.args.arguments.now = search rules in (
      c.requires.0,
      (
        All-same (λ (o : Order). (o.lesser < length g.trees) × (o.greater < length g.trees)) c.deref.result.now (order_atoms c.args.operator c.args.arguments.now) listed
            (orders_both (λ i. i < length g.trees) c.args.operator c.args.arguments.now c.requires.1),
        c.clear-2.ensures.items,
      ),
    )

pub returns-in_err-put_bounds-clause-cause : goal.returns-in_err-put_bounds-clause-cause
returns-in_err-put_bounds-clause-cause g c =
    let listed : c.deref.result.now ≡ order_atoms c.args.operator c.args.arguments.now = search rules in
    let p = err_from_is_err_and c.from_residual-in_err-put_bounds.result c.from_residual-in_err-put_bounds.ensures.1 in
    rw (p.1, p.2)
    (behind g.trees c.args.atoms.now.atoms c.deref.result.now (order_atoms c.args.operator c.args.arguments.now) (Truth c.args.place) (map (bound_atom g.trees) c.deref.result.now) (map (bound_atom g.trees) (order_atoms c.args.operator c.args.arguments.now)) c.in_err-put_bounds.field-0.0 listed (ap (map (bound_atom g.trees)) listed)
    c.in_err-put_bounds.ensures.cause)

pub put_order-requires-clause-bounds : goal.put_order-requires-clause-bounds
put_order-requires-clause-bounds g c =
    let table = c.args.atoms.now.atoms in
    let few : length table ≤ 2 ^ 31 = c.are_few.ensures in
    let numbers : c.deref-2.result.now ≡ map (bound_number g.trees table) c.deref.result.now = c.deref-2.ensures.value ∙ c.in_ok-put_bounds.ensures.numbers in
    All-same (λ n. n < 2 ^ 31) c.deref-2.result.now (map (bound_number g.trees table) c.deref.result.now) numbers
    (All-weaker (λ n. n < length table) (λ n. n < 2 ^ 31) (λ n l. omega arith) (map (bound_number g.trees table) c.deref.result.now)
    (numbers_within table (bound_atom g.trees) c.deref.result.now c.in_ok-put_bounds.ensures.has))

pub returns-clause-has : goal.returns-clause-has
returns-clause-has g c =
    let known = Contains c.args.atoms.now.atoms in
    let listed : c.deref.result.now ≡ order_atoms c.args.operator c.args.arguments.now = search rules in
    All-cons known (Truth c.args.place) (map (bound_atom g.trees) (order_atoms c.args.operator c.args.arguments.now)) c.in_ok-number.ensures.found.has
    (All-map known (bound_atom g.trees) (order_atoms c.args.operator c.args.arguments.now) (subst (All (λ o. known (bound_atom g.trees o))) listed c.in_ok-put_bounds.ensures.has))
