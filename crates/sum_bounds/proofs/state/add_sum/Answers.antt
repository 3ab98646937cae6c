use Rattle.std.proofs.Common.{◌≡◌, ◌∙◌, ◌++◌, ◌∷◌, [], map, pos, ap, ap₂, sym, subst, Bool, ◌&&◌}
use Rattle.fraction128.specs.Number.{whole}
use Rattle.fraction128.specs.declared.TableRow.{TableRow}
use Rattle.fraction128.specs.Grid.{entries_value, entries_value_fits, sum_row, no_coefficients}
use Rattle.tableau.specs.Written.{AreParts, parts_row, parts_fit}
use Rattle.simplex.specs.Sums.{AreMatched}
use Rattle.simplex_steps.specs.State.{values}
use Rattle.simplex.specs.State.{new_column, with_row, row_value_of}
use Rattle.sum_bounds.specs.Hash.{sum_hash}
use Rattle.sum_bounds.specs.Bounds.{sum_hashes}
use Rattle.sum_bounds.specs.Written.{part_in}
use Rattle.sum_bounds.proofs.Parts.{are_parts, are_matched, parts_fit-is, row_is}
use Rattle.sum_bounds.proofs.Growth.{hashes_push}
use Rattle.sum_bounds.proofs.state.add_sum.Goals as goal

pub add_row-requires-clause-parts : goal.add_row-requires-clause-parts
add_row-requires-clause-parts c =
    let cs = c.args.simplex.now.columns in
    let e : c.deref.result.now ≡ map (part_in cs) c.args.sum = c.deref.ensures.value ∙ c.in_ok-parts.ensures ∙ ap (map (part_in cs)) c.as_slice.ensures in
    subst (AreParts c.args.simplex.now.table.count) (sym e) (are_parts cs c.args.simplex.now.table.count c.args.sum c.requires.apart c.facts.ensures.solution.count c.requires.sum)

pub add_row-requires-clause-matched : goal.add_row-requires-clause-matched
add_row-requires-clause-matched c =
    let cs = c.args.simplex.now.columns in
    let e : c.deref.result.now ≡ map (part_in cs) c.args.sum = c.deref.ensures.value ∙ c.in_ok-parts.ensures ∙ ap (map (part_in cs)) c.as_slice.ensures in
    subst (AreMatched cs c.args.sum) (sym e) (are_matched cs c.args.sum c.requires.apart c.requires.sum)

pub returns-in-Ok-clause-ok : goal.returns-in-Ok-clause-ok
returns-in-Ok-clause-ok c =
    let cs = c.args.simplex.now.columns in
    let t = c.args.simplex.now.table in
    let ps = c.args.sum in
    let e : c.deref.result.now ≡ map (part_in cs) ps = c.deref.ensures.value ∙ c.in_ok-parts.ensures ∙ ap (map (part_in cs)) c.as_slice.ensures in
    let row : parts_row t.count t.rows c.deref.result.now ≡ sum_row cs t.rows ps = ap (parts_row t.count t.rows) e ∙ row_is cs t.rows t.count ps c.facts.ensures.solution.count in
    let columns = c.in-Ok.ensures.columns ∙ ap (λ (r : TableRow). cs ++ new_column ps (row_value_of cs r) ∷ []) row in
    record {
      table = c.in-Ok.ensures.table ∙ ap (with_row t) row;
      columns = columns;
      bounds = c.in-Ok.ensures.bounds;
      hashed = c.in_ok-push.ensures.ok
          ∙ hashes_push cs (new_column ps (entries_value (values cs) (whole (pos 0)) (sum_row cs t.rows ps).entries)) c.args.keys.now c.hash_of.result c.requires.keys (c.hash_of.ensures ∙ ap sum_hash c.as_slice-2.ensures)
          ∙ sym (ap sum_hashes columns);
    }

pub returns-clause-range : goal.returns-clause-range
returns-clause-range c =
    let cs = c.args.simplex.now.columns in
    let t = c.args.simplex.now.table in
    let ps = c.args.sum in
    let e : c.deref.result.now ≡ map (part_in cs) ps = c.deref.ensures.value ∙ c.in_ok-parts.ensures ∙ ap (map (part_in cs)) c.as_slice.ensures in
    let row : parts_row t.count t.rows c.deref.result.now ≡ sum_row cs t.rows ps = ap (parts_row t.count t.rows) e ∙ row_is cs t.rows t.count ps c.facts.ensures.solution.count in
    λ h.
    sym (ap₂ (λ (a b : Bool). a && b) (ap (parts_fit t.count t.rows no_coefficients) e ∙ parts_fit-is cs t.rows t.count no_coefficients ps c.facts.ensures.solution.count)
    (ap (λ (r : TableRow). entries_value_fits (values cs) (whole (pos 0)) r.entries) row))
    ∙ c.in-Err.ensures.range h
