use Rattle.std.proofs.Common.{rules, ◌≡◌, true, Contains, map}
use Rattle.std.proofs.lemmas.List.Elements.{All-head}
use Rattle.std.proofs.lemmas.Result.{err_from_is_err_and}
use Rattle.bound_clauses.specs.Orders.{bound_atom}
use Rattle.order_clauses.specs.Pairs.{same_atom}
use Rattle.order_clauses.specs.Needed.{orders_tied, atoms_of_pair}
use Rattle.order_clauses.proofs.Causes.{by_missing, tied_cause, tied_has}
use Rattle.order_clauses.proofs.ties.put_tie.Goals as goal

pub returns-in_err-same-clause-cause : goal.returns-in_err-same-clause-cause
returns-in_err-same-clause-cause g c =
    let p = err_from_is_err_and c.from_residual.result c.from_residual.ensures.1 in
    rw (p.1, p.2)
    (by_missing g.trees c.args.atoms.now.atoms (orders_tied c.args.are_ints c.args.pair) (atoms_of_pair g.trees c.args.are_ints c.args.pair) c.in_err-same.field-0.0 c.in_err-same.ensures.err.0
    (λ all. c.in_err-same.ensures.err.1 (All-head (Contains c.args.atoms.now.atoms) (same_atom c.args.pair) (map (bound_atom g.trees) (orders_tied c.args.are_ints c.args.pair)) all)))

pub returns-in_err-put_int_tie-clause-cause : goal.returns-in_err-put_int_tie-clause-cause
returns-in_err-put_int_tie-clause-cause g c =
    let int : c.args.are_ints ≡ true = search rules in
    let p = err_from_is_err_and c.from_residual-in_err-put_int_tie.result c.from_residual-in_err-put_int_tie.ensures.1 in
    rw (p.1, p.2)
    (tied_cause g.trees c.args.atoms.now.atoms c.args.are_ints c.args.pair c.in_err-put_int_tie.field-0.0 int c.in_err-put_int_tie.ensures.cause)

pub returns-clause-has : goal.returns-clause-has
returns-clause-has g c =
    let int : c.args.are_ints ≡ true = search rules in
    tied_has g.trees c.args.atoms.now.atoms c.args.are_ints c.args.pair int c.in_ok-same.ensures.found.has c.in_ok-put_int_tie.ensures.has
