use Rattle.std.proofs.Common.{rules, ◌≡◌, Contains, All, OnOk, IfErr, true, sym, subst}
use Rattle.bound_clauses.specs.Orders.{order_atoms}
use Rattle.order_clauses.specs.Clauses.{has_rows}
use Rattle.order_clauses.specs.Needed.{orders_of_equality, orders_of_choice, orders_of_part, atoms_of_order, equality_atoms_of, choice_atoms_of, atoms_of_division, atoms_of_part}
use Rattle.order_clauses.specs.Errors.{IsCause}
use Rattle.order_clauses.proofs.DivisionCauses.{all_err, of_orders, of_division}
use Rattle.order_clauses.proofs.parts.put.Goals as goal

pub returns-in-AtMost-clause-has : goal.returns-in-AtMost-clause-has
returns-in-AtMost-clause-has g c =
    let atoms : atoms_of_part c.args.sorts.now g.trees c.args.operator c.args.place c.args.arguments.now ≡ atoms_of_order g.trees c.args.operator c.args.place c.args.arguments.now = search rules in
    subst (λ xs. OnOk c.put_order_part.result (All (Contains c.args.atoms.now.atoms) xs)) (sym atoms) c.put_order_part.ensures.has

pub returns-in-AtMost-clause-cause : goal.returns-in-AtMost-clause-cause
returns-in-AtMost-clause-cause g c =
    let atoms : atoms_of_part c.args.sorts.now g.trees c.args.operator c.args.place c.args.arguments.now ≡ atoms_of_order g.trees c.args.operator c.args.place c.args.arguments.now = search rules in
    let orders : orders_of_part c.args.sorts.now c.args.operator c.args.place c.args.arguments.now ≡ order_atoms c.args.operator c.args.arguments.now = search rules in
    all_err c.put_order_part.result _ _ (λ e h. of_orders c.args.sorts.now g.trees c.args.atoms.now.atoms c.args.operator c.args.place c.args.arguments.now e h)
    (subst (λ xs. IfErr c.put_order_part.result (λ e. IsCause g.trees c.args.atoms.now.atoms xs (atoms_of_part c.args.sorts.now g.trees c.args.operator c.args.place c.args.arguments.now) e)) (sym orders)
    (subst (λ xs. IfErr c.put_order_part.result (λ e. IsCause g.trees c.args.atoms.now.atoms (order_atoms c.args.operator c.args.arguments.now) xs e)) (sym atoms) c.put_order_part.ensures.cause))

pub returns-in-Equal-clause-has : goal.returns-in-Equal-clause-has
returns-in-Equal-clause-has g c =
    let atoms : atoms_of_part c.args.sorts.now g.trees c.args.operator c.args.place c.args.arguments.now ≡ equality_atoms_of c.args.sorts.now g.trees c.args.operator c.args.place c.args.arguments.now = search rules in
    subst (λ xs. OnOk c.put_equality_of.result (All (Contains c.args.atoms.now.atoms) xs)) (sym atoms) c.put_equality_of.ensures.has

pub returns-in-Equal-clause-cause : goal.returns-in-Equal-clause-cause
returns-in-Equal-clause-cause g c =
    let atoms : atoms_of_part c.args.sorts.now g.trees c.args.operator c.args.place c.args.arguments.now ≡ equality_atoms_of c.args.sorts.now g.trees c.args.operator c.args.place c.args.arguments.now = search rules in
    let orders : orders_of_part c.args.sorts.now c.args.operator c.args.place c.args.arguments.now ≡ orders_of_equality c.args.sorts.now c.args.operator c.args.arguments.now = search rules in
    all_err c.put_equality_of.result _ _ (λ e h. of_orders c.args.sorts.now g.trees c.args.atoms.now.atoms c.args.operator c.args.place c.args.arguments.now e h)
    (subst (λ xs. IfErr c.put_equality_of.result (λ e. IsCause g.trees c.args.atoms.now.atoms xs (atoms_of_part c.args.sorts.now g.trees c.args.operator c.args.place c.args.arguments.now) e)) (sym orders)
    (subst (λ xs. IfErr c.put_equality_of.result (λ e. IsCause g.trees c.args.atoms.now.atoms (orders_of_equality c.args.sorts.now c.args.operator c.args.arguments.now) xs e)) (sym atoms) c.put_equality_of.ensures.cause))

pub returns-in-Ite-clause-has : goal.returns-in-Ite-clause-has
returns-in-Ite-clause-has g c =
    let atoms : atoms_of_part c.args.sorts.now g.trees c.args.operator c.args.place c.args.arguments.now ≡ choice_atoms_of c.args.sorts.now g.trees c.args.place c.args.arguments.now = search rules in
    subst (λ xs. OnOk c.put_choice_of.result (All (Contains c.args.atoms.now.atoms) xs)) (sym atoms) c.put_choice_of.ensures.has

pub returns-in-Ite-clause-cause : goal.returns-in-Ite-clause-cause
returns-in-Ite-clause-cause g c =
    let atoms : atoms_of_part c.args.sorts.now g.trees c.args.operator c.args.place c.args.arguments.now ≡ choice_atoms_of c.args.sorts.now g.trees c.args.place c.args.arguments.now = search rules in
    let orders : orders_of_part c.args.sorts.now c.args.operator c.args.place c.args.arguments.now ≡ orders_of_choice c.args.sorts.now c.args.place c.args.arguments.now = search rules in
    all_err c.put_choice_of.result _ _ (λ e h. of_orders c.args.sorts.now g.trees c.args.atoms.now.atoms c.args.operator c.args.place c.args.arguments.now e h)
    (subst (λ xs. IfErr c.put_choice_of.result (λ e. IsCause g.trees c.args.atoms.now.atoms xs (atoms_of_part c.args.sorts.now g.trees c.args.operator c.args.place c.args.arguments.now) e)) (sym orders)
    (subst (λ xs. IfErr c.put_choice_of.result (λ e. IsCause g.trees c.args.atoms.now.atoms (orders_of_choice c.args.sorts.now c.args.place c.args.arguments.now) xs e)) (sym atoms) c.put_choice_of.ensures.cause))

pub returns-in-Divide-clause-has : goal.returns-in-Divide-clause-has
returns-in-Divide-clause-has g c =
    let atoms : atoms_of_part c.args.sorts.now g.trees c.args.operator c.args.place c.args.arguments.now ≡ atoms_of_division g.trees c.args.operator c.args.place c.args.arguments.now = search rules in
    subst (λ xs. OnOk c.put_division.result (All (Contains c.args.atoms.now.atoms) xs)) (sym atoms) c.put_division.ensures.has

pub returns-in-Divide-clause-cause : goal.returns-in-Divide-clause-cause
returns-in-Divide-clause-cause g c =
    let atoms : atoms_of_part c.args.sorts.now g.trees c.args.operator c.args.place c.args.arguments.now ≡ atoms_of_division g.trees c.args.operator c.args.place c.args.arguments.now = search rules in
    let rows : has_rows c.args.operator ≡ true = search rules in
    all_err c.put_division.result _ _ (λ e h. of_division c.args.sorts.now g.trees c.args.atoms.now.atoms c.args.operator c.args.place c.args.arguments.now rows atoms e h) c.put_division.ensures.cause
