use Rattle.std.proofs.Common.{true, [], ◌∷◌, ◌++◌, Contains, refl, arith}
use Rattle.std.specs.Prelude.{flat_map}
use Rattle.std.proofs.lemmas.List.Elements.{All-head, All-cons, All-nil, All-append}
use Rattle.std.proofs.lemmas.Result.{err_from_is_err_and}
use Rattle.smt_meaning.specs.declared.clauses.Atom.TheVariants.{Truth}
use Rattle.order_clauses.specs.Pairs.{pair}
use Rattle.order_clauses.specs.Needed.{orders_tied, atoms_of_pair, atoms_of_choice}
use Rattle.order_clauses.proofs.Causes.{by_missing, behind, one_pair}
use Rattle.order_clauses.proofs.parts.put_choice_part.Goals as goal

pub returns-in_err-number-clause-cause : goal.returns-in_err-number-clause-cause
returns-in_err-number-clause-cause g c =
    let p = err_from_is_err_and c.from_residual.result c.from_residual.ensures.1 in
    rw (p.1, p.2)
    (by_missing g.trees c.args.atoms.now.atoms (flat_map (orders_tied true) (pair c.args.place c.args.first ∷ pair c.args.place c.args.second ∷ [])) (atoms_of_choice g.trees c.args.place c.args.condition c.args.first c.args.second) c.in_err-number.field-0.0 c.in_err-number.ensures.err.0
    (λ all. c.in_err-number.ensures.err.1 (All-head (Contains c.args.atoms.now.atoms) (Truth c.args.condition) (flat_map (atoms_of_pair g.trees true) (pair c.args.place c.args.first ∷ pair c.args.place c.args.second ∷ [])) all)))

pub returns-in_err-first-clause-cause : goal.returns-in_err-first-clause-cause
returns-in_err-first-clause-cause g c =
    let pairs = pair c.args.place c.args.first ∷ pair c.args.place c.args.second ∷ [] in
    let p = err_from_is_err_and c.from_residual-in_err-first.result c.from_residual-in_err-first.ensures.1 in
    rw (p.1, p.2)
    (behind g.trees c.args.atoms.now.atoms (flat_map (orders_tied true) pairs) (flat_map (orders_tied true) pairs) (Truth c.args.condition) (flat_map (atoms_of_pair g.trees true) pairs) (flat_map (atoms_of_pair g.trees true) pairs) c.in_err-first.field-0.0 refl refl
    (one_pair g.trees c.args.atoms.now.atoms true pairs 0 (pair c.args.place c.args.first) c.in_err-first.field-0.0 (omega arith) c.in_err-first.ensures.cause))

pub returns-in_err-second-clause-cause : goal.returns-in_err-second-clause-cause
returns-in_err-second-clause-cause g c =
    let pairs = pair c.args.place c.args.first ∷ pair c.args.place c.args.second ∷ [] in
    let p = err_from_is_err_and c.from_residual-in_err-second.result c.from_residual-in_err-second.ensures.1 in
    rw (p.1, p.2)
    (behind g.trees c.args.atoms.now.atoms (flat_map (orders_tied true) pairs) (flat_map (orders_tied true) pairs) (Truth c.args.condition) (flat_map (atoms_of_pair g.trees true) pairs) (flat_map (atoms_of_pair g.trees true) pairs) c.in_err-second.field-0.0 refl refl
    (one_pair g.trees c.args.atoms.now.atoms true pairs 1 (pair c.args.place c.args.first) c.in_err-second.field-0.0 (omega arith) c.in_err-second.ensures.cause))

pub returns-clause-has : goal.returns-clause-has
returns-clause-has g c =
    let known = Contains c.args.atoms.now.atoms in
    let first = atoms_of_pair g.trees true (pair c.args.place c.args.first) in
    let second = atoms_of_pair g.trees true (pair c.args.place c.args.second) in
    All-cons known (Truth c.args.condition) (first ++ (second ++ [])) c.in_ok-number.ensures.found.has
    (All-append known first (second ++ []) c.in_ok-first.ensures.has (All-append known second [] c.in_ok-second.ensures.has (All-nil known)))
