use Rattle.std.specs.Prelude.{pos}
use Rattle.std.proofs.lemmas.Result.{err_from_is_err_and}
use Rattle.smt_meaning.specs.declared.clauses.Summand.{Summand}
use Rattle.linear_forms.proofs.ScratchLemmas.{add_place, add_step, add_fails}
use Rattle.linear_forms.proofs.coefficients.add_sum.Goals as goal

abbrev zero : Summand
zero = record { coefficient = pos 0; term = 0 }

pub add_at-requires-clause-place : goal.add_at-requires-clause-place
add_at-requires-clause-place c =
    add_place c.args.negated c.args.values.now c.args.sum.now c.requires.sum c.loop-summand.summand-index c.loop-summand.values c.loop-summand.touched.items c.loop-summand.invariant zero c.loop-summand-test.true

pub returns-in_err-add_at-clause-range : goal.returns-in_err-add_at-clause-range
returns-in_err-add_at-clause-range c =
    let p = err_from_is_err_and c.from_residual.result c.from_residual.ensures.1 in
    rw (p.1, p.2) (λ e.
    add_fails c.args.negated c.args.values.now c.args.sum.now c.requires.sum c.loop-summand.summand-index c.loop-summand.values c.loop-summand.touched.items c.loop-summand.invariant zero
    c.loop-summand-test.true (c.in_err-add_at.ensures.range e))

pub loop-summand-preserved : goal.loop-summand-preserved
loop-summand-preserved c =
    add_step c.args.negated c.args.values.now c.args.sum.now c.requires.sum c.loop-summand.summand-index c.loop-summand.values c.loop-summand.touched.items c.loop-summand.invariant zero c.loop-summand-test.true
    c.add_at.new.values c.add_at.new.touched.items c.in_ok-add_at.ensures.ok c.add_at.ensures.ranged c.add_at.ensures.touched
