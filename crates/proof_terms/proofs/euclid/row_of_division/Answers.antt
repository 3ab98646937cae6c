use Rattle.std.proofs.Common.{◌≡◌, ◌<◌, ◌∙◌, length, map, refl, ap, subst, arith}
use Rattle.std.specs.Prelude.{ℤ}
use Rattle.std.proofs.lemmas.List.{length-map}
use Rattle.std.proofs.lemmas.Option.{slice_get_read}
use Rattle.fraction128.proofs.Integers.{same_bits}
use Rattle.pair_bounds.specs.Rows.{placed_row}
use Rattle.proof_terms.specs.EuclidRows.{division_rows}
use Rattle.proof_terms.proofs.EuclidDivisions.{row_found}
use Rattle.proof_terms.proofs.euclid.row_of_division.Goals as goal

pub returns-in-Ok-clause-ok : goal.returns-in-Ok-clause-ok
returns-in-Ok-clause-ok c =
    let n = c.in_ok-number.number in
    let rows = c.in-Ok.rows.items in
    let number = c.in_ok-number.ensures.ok in
    let items : rows ≡ map placed_row (division_rows c.args.division n c.args.place) = subst (λ (z : ℤ). rows ≡ map placed_row (division_rows c.args.division z c.args.place)) (same_bits n number.1) c.in-Ok.ensures in
    let size : length rows ≡ length (division_rows c.args.division n c.args.place) = ap length items ∙ length-map (division_rows c.args.division n c.args.place) placed_row in
    let count = c.row_count.ensures n c.args.place in
    let inside : c.args.which < length rows = let h = c.if-which-row_count.false in omega arith in
    row_found c.args.terms.now.trees c.args.place c.args.division c.args.which n rows c.index.result.now number.0 number.1 items c.requires.place c.requires.within
    (slice_get_read rows (length rows) c.args.which c.index.result.now refl inside c.index.ensures)
