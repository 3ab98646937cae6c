use Rattle.std.proofs.Common.{rules, ◌≡◌, [], ◌∷◌, Contains, sym, subst, to_z, of_z}
use Rattle.std.specs.Int.{w128}
use Rattle.std.proofs.lemmas.List.Elements.{All-head}
use Rattle.std.proofs.lemmas.Result.{err_from_is_err_and}
use Rattle.smt_meaning.specs.declared.clauses.Atom.TheVariants.{AtMost}
use Rattle.bound_clauses.specs.Orders.{bound_atom}
use Rattle.order_clauses.specs.Numbers.{IsNumberOf}
use Rattle.order_clauses.proofs.Causes.{by_missing}
use Rattle.order_clauses.proofs.bounds.put_bound.Goals as goal

pub returns-in_err-number-clause-cause : goal.returns-in_err-number-clause-cause
returns-in_err-number-clause-cause g c =
    let same : AtMost c.deref.result.now (to_z w128 (of_z w128 c.in-Ok.threshold)) ≡ bound_atom g.trees c.args.order = search rules in
    let p = err_from_is_err_and c.from_residual.result c.from_residual.ensures.1 in
    rw (p.1, p.2)
    (by_missing g.trees c.args.atoms.now.atoms (c.args.order ∷ []) (bound_atom g.trees c.args.order ∷ []) c.in_err-number.field-0.0 c.in_err-number.ensures.err.0
    (λ all. c.in_err-number.ensures.err.1 (subst (Contains c.args.atoms.now.atoms) (sym same) (All-head (Contains c.args.atoms.now.atoms) (bound_atom g.trees c.args.order) [] all))))

pub returns-in-Err-clause-cause : goal.returns-in-Err-clause-cause
returns-in-Err-clause-cause g c = c.cause_of.ensures g.trees c.args.atoms.now.atoms (bound_atom g.trees c.args.order ∷ []) c.in-Err.ensures.refused

pub returns-clause-found : goal.returns-clause-found
returns-clause-found g c =
    let same : AtMost c.deref.result.now (to_z w128 (of_z w128 c.in-Ok.threshold)) ≡ bound_atom g.trees c.args.order = search rules in
    subst (λ a. IsNumberOf c.args.atoms.now.atoms a c.in_ok-number.number) same c.in_ok-number.ensures.found
