use Rattle.std.proofs.Common.{All, Contains, subst, ◌∙◌}
use Rattle.std.specs.Prelude.{flat_map}
use Rattle.std.proofs.lemmas.List.{take_all}
use Rattle.std.proofs.lemmas.Result.{err_from_is_err_and}
use Rattle.order_clauses.specs.Clauses.{row_part}
use Rattle.order_clauses.specs.Needed.{atoms_of_row}
use Rattle.order_clauses.proofs.DivisionCauses.{one_row}
use Rattle.order_clauses.proofs.Steps.{flat_step, All-flat_step}
use Rattle.order_clauses.proofs.division.put_rows.Goals as goal

pub returns-in_err-put_row-clause-cause : goal.returns-in_err-put_row-clause-cause
returns-in_err-put_row-clause-cause g c =
    let p = err_from_is_err_and c.from_residual.result c.from_residual.ensures.1 in
    rw (p.1, p.2)
    (one_row g.trees c.args.atoms.now.atoms c.args.place c.args.rows.now c.loop-row.row-index _ c.in_err-put_row.field-0.0 c.loop-row-test.true c.in_err-put_row.ensures.cause)

pub loop-row-preserved : goal.loop-row-preserved
loop-row-preserved g c =
    let table = c.args.atoms.now.atoms in
    let rows = c.args.rows.now in
    let k = c.loop-row.row-index in (
      c.put_row.ensures.same ∙ c.loop-row.invariant.0,
      All-flat_step rows k _ c.loop-row-test.true (Contains table) (atoms_of_row g.trees c.args.place) c.loop-row.invariant.1 c.in_ok-put_row.ensures.has,
      flat_step rows k _ c.loop-row-test.true (row_part g.trees table c.args.place) c.args.clauses.now c.loop-row.clauses c.put_row.new.clauses c.loop-row.invariant.2 c.in_ok-put_row.ensures.put,
    )

pub returns-clause-has : goal.returns-clause-has
returns-clause-has g c =
    subst (λ rs. All (Contains c.args.atoms.now.atoms) (flat_map (atoms_of_row g.trees c.args.place) rs)) (take_all c.loop-row.row-index c.args.rows.now c.loop-row-test.false) c.loop-row.invariant.1
