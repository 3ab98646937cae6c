use Rattle.std.proofs.Common.{◌≡◌, ◌≢◌, true, false, to_z, of_z, sym, ap, subst, ◌∙◌}
use Rattle.std.specs.Prelude.{ℤ, pos}
use Rattle.std.specs.Int.{w128}
use Rattle.std.proofs.lemmas.Int.{to_z-of_z}
use Rattle.std.proofs.lemmas.Result.{err_from_is_err_and}
use Rattle.smt_meaning.specs.declared.clauses.Summand.{Summand}
use Rattle.smt_meaning.specs.Linear.{sum_times, sum_fits}
use Rattle.linear_forms.proofs.ProductLemmas.{scaling_step, scaling_fails, scaled_all, scaled_fits}
use Rattle.linear_forms.proofs.products.scaled.Goals as goal

not_zero : (z : ℤ) → to_z w128 (of_z w128 z) ≡ z → (of_z w128 z ≢ 0) → to_z w128 (of_z w128 z) ≢ pos 0
not_zero z same h e = h (ap (of_z w128) (sym same ∙ e))

abbrev zero : Summand
zero = record { coefficient = pos 0; term = 0 }

pub returns-in_err-push_scaled-clause-range : goal.returns-in_err-push_scaled-clause-range
returns-in_err-push_scaled-clause-range c =
    let same = to_z-of_z w128 c.args.factor c.ranges.factor in
    let p = err_from_is_err_and c.from_residual.result c.from_residual.ensures.1 in
    rw (p.1, p.2) (λ e.
    subst (λ z. sum_fits (sum_times z c.args.sum.now) ≡ false) same
    (scaling_fails (to_z w128 (of_z w128 c.args.factor)) c.args.sum.now c.loop-summand.summand-index zero (not_zero c.args.factor same c.if-factor-eq0.false) c.loop-summand-test.true (c.in_err-push_scaled.ensures.range e)))

pub loop-summand-preserved : goal.loop-summand-preserved
loop-summand-preserved c =
    scaling_step (to_z w128 (of_z w128 c.args.factor)) c.args.sum.now c.loop-summand.summand-index zero c.loop-summand.out.items c.push_scaled.new.out.items c.loop-summand.invariant c.loop-summand-test.true
    c.in_ok-push_scaled.ensures.ok c.in_ok-push_scaled.ensures.fits

pub returns-clause-ok : goal.returns-clause-ok
returns-clause-ok c =
    let same = to_z-of_z w128 c.args.factor c.ranges.factor in
    subst (λ z. c.loop-summand.out.items ≡ sum_times z c.args.sum.now) same
    (scaled_all (to_z w128 (of_z w128 c.args.factor)) c.args.sum.now c.loop-summand.summand-index c.loop-summand.out.items (not_zero c.args.factor same c.if-factor-eq0.false) c.loop-summand.invariant c.loop-summand-test.false)

pub returns-clause-fits : goal.returns-clause-fits
returns-clause-fits c =
    let same = to_z-of_z w128 c.args.factor c.ranges.factor in
    subst (λ z. sum_fits (sum_times z c.args.sum.now) ≡ true) same
    (scaled_fits (to_z w128 (of_z w128 c.args.factor)) c.args.sum.now c.loop-summand.summand-index c.loop-summand.out.items (not_zero c.args.factor same c.if-factor-eq0.false) c.loop-summand.invariant c.loop-summand-test.false)
