use Rattle.std.proofs.Common.{rules, ◌≡◌, [], ◌∷◌, Contains, sym, subst, to_z, of_z}
use Rattle.std.specs.Int.{w128}
use Rattle.std.proofs.lemmas.List.Elements.{All-head}
use Rattle.std.proofs.lemmas.Result.{err_from_is_err_and}
use Rattle.smt_meaning.specs.declared.clauses.Atom.TheVariants.{AtMost}
use Rattle.order_clauses.specs.Clauses.{limit_bound}
use Rattle.order_clauses.specs.Numbers.{IsNumberOf}
use Rattle.order_clauses.proofs.DivisionCauses.{missing_limits}
use Rattle.order_clauses.proofs.division.put_limit.Goals as goal

pub returns-in_err-number-clause-cause : goal.returns-in_err-number-clause-cause
returns-in_err-number-clause-cause g c =
    let same : AtMost c.deref.result.now (to_z w128 (of_z w128 c.in_ok-threshold.threshold)) ≡ limit_bound g.trees c.args.limit = search rules in
    let p = err_from_is_err_and c.from_residual-in_err-number.result c.from_residual-in_err-number.ensures.1 in
    rw (p.1, p.2)
    (missing_limits g.trees c.args.atoms.now.atoms (c.args.limit ∷ []) (limit_bound g.trees c.args.limit ∷ []) c.in_err-number.field-0.0 c.in_err-number.ensures.err.0
    (λ all. c.in_err-number.ensures.err.1 (subst (Contains c.args.atoms.now.atoms) (sym same) (All-head (Contains c.args.atoms.now.atoms) (limit_bound g.trees c.args.limit) [] all))))

pub returns-clause-found : goal.returns-clause-found
returns-clause-found g c =
    let same : AtMost c.deref.result.now (to_z w128 (of_z w128 c.in_ok-threshold.threshold)) ≡ limit_bound g.trees c.args.limit = search rules in
    subst (λ a. IsNumberOf c.args.atoms.now.atoms a c.in_ok-number.number) same c.in_ok-number.ensures.found
