use Rattle.std.proofs.Common.{◌≡◌, ◌∙◌, ap, true, false, subst, arith}
use Rattle.fraction128.specs.Number.{whole}
use Rattle.fraction128.specs.Grid.{row_of}
use Rattle.tableau.specs.Failing.{IsRange}
use Rattle.tableau.specs.Fitting.{merged_fits}
use Rattle.tableau.specs.Rows.{merged}
use Rattle.tableau.specs.Written.{part_at, form_of}
use Rattle.tableau.proofs.RowLemmas.{err_then}
use Rattle.tableau.proofs.Writing.{partial_more, partial_fails, partial_whole}
use Rattle.tableau.proofs.sum.write_parts.Goals as goal

pub returns-in_err-add_part-clause-range : goal.returns-in_err-add_part-clause-range
returns-in_err-add_part-clause-range c =
    let p = part_at c.args.parts.now c.loop-part.part-index in
    err_then c.from_residual.result
    (λ e w r. partial_fails c.args.tableau.now c.args.parts.now c.loop-part.part-index c.loop-part.sum.items c.facts.ensures c.requires c.loop-part-test.true c.loop-part.invariant
    (subst (λ es. merged_fits (whole p.coefficient) es (form_of (row_of c.args.tableau.now.rows p.variable) p.variable) ≡ false) c.deref.ensures.value (c.in_err-add_part.ensures.range (subst IsRange w r))))
    c.from_residual.ensures.1

pub loop-part-preserved : goal.loop-part-preserved
loop-part-preserved c =
    let p = part_at c.args.parts.now c.loop-part.part-index in
    partial_more c.args.tableau.now c.args.parts.now c.loop-part.part-index c.loop-part.sum.items c.swap.new.x.items c.facts.ensures c.requires c.loop-part-test.true c.loop-part.invariant
    (subst (λ es. c.swap.new.x.items ≡ merged (whole p.coefficient) es (form_of (row_of c.args.tableau.now.rows p.variable) p.variable)) c.deref.ensures.value (ap (λ v. v.items) c.swap.ensures.x_after ∙ c.in_ok-add_part.ensures.ok))
    (subst (λ es. merged_fits (whole p.coefficient) es (form_of (row_of c.args.tableau.now.rows p.variable) p.variable) ≡ true) c.deref.ensures.value c.in_ok-add_part.ensures.fits)

pub returns-clause-ok : goal.returns-clause-ok
returns-clause-ok c = partial_whole c.args.tableau.now c.args.parts.now c.loop-part.part-index c.loop-part.sum.items (omega (arith, c.loop-part-test.false)) c.loop-part.invariant
