use Rattle.std.proofs.Common.{rules, ◌≡◌, [], ◌∷◌, Contains, All, OnOk, IfErr, slice_index, sym, subst}
use Rattle.std.specs.Prelude.{flat_map}
use Rattle.order_clauses.specs.Pairs.{pair, orders_of_pair}
use Rattle.order_clauses.specs.Needed.{orders_of_choice, atoms_of_choice, choice_atoms_of}
use Rattle.order_clauses.specs.Errors.{IsCause}
use Rattle.order_clauses.proofs.parts.put_choice_of.Goals as goal

pub returns-in-Int-clause-has : goal.returns-in-Int-clause-has
returns-in-Int-clause-has g c =
    let condition = slice_index c.args.arguments.now 0 in
    let first = slice_index c.args.arguments.now 1 in
    let second = slice_index c.args.arguments.now 2 in
    let atoms : choice_atoms_of c.args.sorts.now g.trees c.args.place c.args.arguments.now ≡ atoms_of_choice g.trees c.args.place condition first second = search rules in
    subst (λ xs. OnOk c.put_choice_part.result (All (Contains c.args.atoms.now.atoms) xs)) (sym atoms) c.put_choice_part.ensures.has

pub returns-in-Int-clause-cause : goal.returns-in-Int-clause-cause
returns-in-Int-clause-cause g c =
    let condition = slice_index c.args.arguments.now 0 in
    let first = slice_index c.args.arguments.now 1 in
    let second = slice_index c.args.arguments.now 2 in
    let atoms : choice_atoms_of c.args.sorts.now g.trees c.args.place c.args.arguments.now ≡ atoms_of_choice g.trees c.args.place condition first second = search rules in
    let orders : orders_of_choice c.args.sorts.now c.args.place c.args.arguments.now ≡ flat_map (orders_of_pair) (pair c.args.place first ∷ pair c.args.place second ∷ []) = search rules in
    subst (λ xs. IfErr c.put_choice_part.result (λ e. IsCause g.trees c.args.atoms.now.atoms xs (choice_atoms_of c.args.sorts.now g.trees c.args.place c.args.arguments.now) e)) (sym orders)
    (subst (λ xs. IfErr c.put_choice_part.result (λ e. IsCause g.trees c.args.atoms.now.atoms (flat_map (orders_of_pair) (pair c.args.place first ∷ pair c.args.place second ∷ [])) xs e)) (sym atoms) c.put_choice_part.ensures.cause)
