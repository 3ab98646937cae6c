use Rattle.std.proofs.Common.{◌≡◌, ◌++◌, take, All, Contains}
use Rattle.std.specs.Prelude.{flat_map}
use Rattle.order_clauses.specs.Clauses.{row_part}
use Rattle.order_clauses.specs.Needed.{atoms_of_row}
use Rattle.order_clauses.proofs.division.put_rows.Given as goal

abbrev pub ghost-put_row : goal.ghost-put_row
ghost-put_row g a = g.trees

abbrev pub invariant-loop-row : goal.invariant-loop-row
invariant-loop-row g l =
    (l.forms ≡ l.fn.forms)
    × All (Contains l.atoms.atoms) (flat_map (atoms_of_row g.trees l.place) (take l.row-index l.rows))
    × (l.clauses ≡ l.fn.clauses ++ flat_map (row_part g.trees l.atoms.atoms l.place) (take l.row-index l.rows))
