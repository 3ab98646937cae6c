use Rattle.std.proofs.Common.{rules, ◌≡◌, ◌<◌, length, All, Contains, OnOk, sym, subst}
use Rattle.std.specs.Prelude.{flat_map, IfErr}
use Rattle.std.proofs.lemmas.List.Elements.{All-nil}
use Rattle.pair_bounds.specs.Rows.{limits, IsRow, placed_rows}
use Rattle.order_clauses.specs.Needed.{limits_of_division, atoms_of_row, atoms_of_division}
use Rattle.order_clauses.specs.Errors.{IsLimitCause, IsDivisionCause}
use Rattle.order_clauses.proofs.DivisionCauses.{all_err, of_rows_cause}
use Rattle.order_clauses.proofs.division.put_division.Goals as goal
use Rattle.smt_laws.specs.Rows.{place_divisor}

pub put_rows-requires : goal.put_rows-requires
put_rows-requires g c =
    let size = c.requires.0.forms.size in
    let count = length c.args.forms.now in
    let within : All (IsRow count) c.add_rows.new.rows.items =
    c.in_ok-add_rows.ensures.within count (subst (λ n. c.args.place < n) (sym size) c.requires.1.0) (subst (λ n. All (λ i. i < n) c.args.arguments.now) (sym size) c.requires.1.1)
    (subst (All (IsRow count)) (sym c.clear.ensures.items) (All-nil (IsRow count))) in (c.requires.0, subst (All (IsRow count)) (sym c.deref.ensures.value) within)

pub returns-clause-has : goal.returns-clause-has
returns-clause-has g c =
    let made : c.deref.result.now ≡ placed_rows c.args.operator (place_divisor g.trees c.args.arguments.now) c.args.place c.args.arguments.now = search rules in
    subst (λ rs. OnOk c.put_rows.result (All (Contains c.args.atoms.now.atoms) (flat_map (atoms_of_row g.trees c.args.place) rs))) made c.put_rows.ensures.has

pub returns-clause-cause : goal.returns-clause-cause
returns-clause-cause g c =
    let table = c.args.atoms.now.atoms in
    let o = c.args.operator in
    let p = c.args.place in
    let is = c.args.arguments.now in
    let made : c.deref.result.now ≡ placed_rows o (place_divisor g.trees is) p is = search rules in
    all_err c.put_rows.result (λ e. IsLimitCause g.trees table (limits_of_division g.trees o p is) (atoms_of_division g.trees o p is) e) (λ e. IsDivisionCause g.trees table o p is e)
    (λ e h. of_rows_cause g.trees table o p is e h)
    (subst (λ rs. IfErr c.put_rows.result (λ e. IsLimitCause g.trees table (flat_map limits rs) (flat_map (atoms_of_row g.trees p) rs) e)) made c.put_rows.ensures.cause)
