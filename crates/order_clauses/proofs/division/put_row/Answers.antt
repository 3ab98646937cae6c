use Rattle.std.proofs.Common.{◌<◌, ◌≤◌, ◌^◌, map, length, Contains, All, sym, subst}
use Rattle.std.proofs.lemmas.List.Elements.{All-cons, All-tail, All-append}
use Rattle.std.proofs.lemmas.Result.{err_from_is_err_and}
use Rattle.linear_forms.specs.Table.{AreForms}
use Rattle.pair_bounds.specs.Rows.{listed, limits, IsRowLimit}
use Rattle.order_clauses.specs.Clauses.{limit_bound}
use Rattle.order_clauses.specs.Needed.{row_truth_atoms, atoms_of_row}
use Rattle.order_clauses.proofs.DivisionCauses.{missing_limits, truths_of_row, first_cause, other_cause, other_few}
use Rattle.order_clauses.proofs.division.put_row.Goals as goal

pub returns-in_err-truth-clause-cause : goal.returns-in_err-truth-clause-cause
returns-in_err-truth-clause-cause g c =
    let p = err_from_is_err_and c.from_residual.result c.from_residual.ensures.1 in
    rw (p.1, p.2)
    (missing_limits g.trees c.args.atoms.now.atoms (limits c.args.row) (atoms_of_row g.trees c.args.place c.args.row) c.in_err-truth.field-0.0 c.in_err-truth.ensures.err.0
    (λ all. c.in_err-truth.ensures.err.1 (truths_of_row g.trees c.args.atoms.now.atoms c.args.place c.args.row all)))

pub returns-in_err-first-clause-cause : goal.returns-in_err-first-clause-cause
returns-in_err-first-clause-cause g c =
    let p = err_from_is_err_and c.from_residual-in_err-first.result c.from_residual-in_err-first.ensures.1 in
    rw (p.1, p.2) (first_cause g.trees c.args.atoms.now.atoms c.args.place c.args.row c.in_err-first.field-0.0 c.in_err-first.ensures.cause)

pub put_other-requires : goal.put_other-requires
put_other-requires g c =
    subst (λ f. AreForms g.trees f × All (IsRowLimit (length f)) (listed c.args.row.other)) (sym c.in_ok-first.ensures.same)
    (c.requires.0, All-tail (IsRowLimit (length c.args.forms.now)) c.args.row.limit (listed c.args.row.other) c.requires.1)

pub returns-in_err-second-clause-cause : goal.returns-in_err-second-clause-cause
returns-in_err-second-clause-cause g c =
    let p = err_from_is_err_and c.from_residual-in_err-second.result c.from_residual-in_err-second.ensures.1 in
    rw (p.1, p.2) (other_cause g.trees c.args.atoms.now.atoms c.args.place c.args.row c.in_err-second.field-0.0 c.in_err-second.ensures.cause)

pub put_clause-requires-clause-second : goal.put_clause-requires-clause-second
put_clause-requires-clause-second g c =
    let few : length c.args.atoms.now.atoms ≤ 2 ^ 31 = c.are_few.ensures in
    subst (All (λ n. n < 2 ^ 31)) (sym c.in_ok-second.ensures.number) (other_few g.trees c.args.atoms.now.atoms c.in_ok-first.first c.args.row.other few c.in_ok-second.ensures.has)

pub returns-clause-has : goal.returns-clause-has
returns-clause-has g c =
    let known = Contains c.args.atoms.now.atoms in
    All-append known (row_truth_atoms c.args.place c.args.row.truth) (map (limit_bound g.trees) (limits c.args.row)) c.in_ok-truth.ensures.has
    (All-cons known (limit_bound g.trees c.args.row.limit) (map (limit_bound g.trees) (listed c.args.row.other)) c.in_ok-first.ensures.found.has c.in_ok-second.ensures.has)
