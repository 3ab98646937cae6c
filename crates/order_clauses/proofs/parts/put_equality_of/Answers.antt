use Rattle.std.proofs.Common.{rules, ◌≡◌, true, false, Contains, All, OnOk, IfErr, sym, subst}
use Rattle.std.specs.Prelude.{flat_map}
use Rattle.order_clauses.specs.Pairs.{pairs_of}
use Rattle.order_clauses.specs.Needed.{orders_tied, orders_of_equality, atoms_of_equality, equality_atoms_of}
use Rattle.order_clauses.specs.Errors.{IsCause}
use Rattle.order_clauses.proofs.parts.put_equality_of.Goals as goal

pub returns-in-Int-clause-has : goal.returns-in-Int-clause-has
returns-in-Int-clause-has g c =
    let atoms : equality_atoms_of c.args.sorts.now g.trees c.args.operator c.args.place c.args.arguments.now ≡ atoms_of_equality g.trees true c.args.operator c.args.place c.args.arguments.now = search rules in
    subst (λ xs. OnOk c.put_equality_part.result (All (Contains c.args.atoms.now.atoms) xs)) (sym atoms) c.put_equality_part.ensures.has

pub returns-in-Int-clause-cause : goal.returns-in-Int-clause-cause
returns-in-Int-clause-cause g c =
    let atoms : equality_atoms_of c.args.sorts.now g.trees c.args.operator c.args.place c.args.arguments.now ≡ atoms_of_equality g.trees true c.args.operator c.args.place c.args.arguments.now = search rules in
    let orders : orders_of_equality c.args.sorts.now c.args.operator c.args.arguments.now ≡ flat_map (orders_tied true) (pairs_of c.args.operator c.args.arguments.now) = search rules in
    subst (λ xs. IfErr c.put_equality_part.result (λ e. IsCause g.trees c.args.atoms.now.atoms xs (equality_atoms_of c.args.sorts.now g.trees c.args.operator c.args.place c.args.arguments.now) e)) (sym orders)
    (subst (λ xs. IfErr c.put_equality_part.result (λ e. IsCause g.trees c.args.atoms.now.atoms (flat_map (orders_tied true) (pairs_of c.args.operator c.args.arguments.now)) xs e)) (sym atoms) c.put_equality_part.ensures.cause)

pub returns-in-Free-2-clause-has : goal.returns-in-Free-2-clause-has
returns-in-Free-2-clause-has g c =
    let atoms : equality_atoms_of c.args.sorts.now g.trees c.args.operator c.args.place c.args.arguments.now ≡ atoms_of_equality g.trees false c.args.operator c.args.place c.args.arguments.now = search rules in
    subst (λ xs. OnOk c.put_equality_part-in-Free-2.result (All (Contains c.args.atoms.now.atoms) xs)) (sym atoms) c.put_equality_part-in-Free-2.ensures.has

pub returns-in-Free-2-clause-cause : goal.returns-in-Free-2-clause-cause
returns-in-Free-2-clause-cause g c =
    let atoms : equality_atoms_of c.args.sorts.now g.trees c.args.operator c.args.place c.args.arguments.now ≡ atoms_of_equality g.trees false c.args.operator c.args.place c.args.arguments.now = search rules in
    let orders : orders_of_equality c.args.sorts.now c.args.operator c.args.arguments.now ≡ flat_map (orders_tied false) (pairs_of c.args.operator c.args.arguments.now) = search rules in
    subst (λ xs. IfErr c.put_equality_part-in-Free-2.result (λ e. IsCause g.trees c.args.atoms.now.atoms xs (equality_atoms_of c.args.sorts.now g.trees c.args.operator c.args.place c.args.arguments.now) e)) (sym orders)
    (subst (λ xs. IfErr c.put_equality_part-in-Free-2.result (λ e. IsCause g.trees c.args.atoms.now.atoms (flat_map (orders_tied false) (pairs_of c.args.operator c.args.arguments.now)) xs e)) (sym atoms) c.put_equality_part-in-Free-2.ensures.cause)
