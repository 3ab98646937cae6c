use Rattle.std.proofs.Common.{◌≡◌, ◌<◌, ◌+◌, ◌-◌, length, get_or, to_z, sym, subst, refl, arith, ◌∙◌}
use Rattle.std.specs.Prelude.{ℤ}
use Rattle.std.specs.Int.{w128}
use Rattle.std.proofs.lemmas.Result.{err_from_is_err_and}
use Rattle.fraction128.proofs.Integers.{same_bits}
use Rattle.linear_forms.specs.Folding.{form_of}
use Rattle.linear_forms.specs.Entries.{knowns}
use Rattle.linear_forms.specs.Multiples.{form_in}
use Rattle.linear_forms.proofs.MultipleLemmas.{AddsUp, MayLeaveBy, IsMore, nothing, adding_step, adding_fails}
use Rattle.linear_forms.proofs.multiples.fold_multiples.Goals as goal

pub returns-in_err-constant-clause-range : goal.returns-in_err-constant-clause-range
returns-in_err-constant-clause-range c =
    let p = err_from_is_err_and c.from_residual.result c.from_residual.ensures.1 in
    let known = knowns c.args.all.now c.args.entries.now in
    let i = c.loop-i.i in
    let t = c.loop-i-test.true in
    let within = c.loop-i.invariant.within in
    let next : i ≡ (i - 1) + 1 = omega arith in
    let inside : i - 1 < length c.args.multiples.now = omega arith in
    let m = get_or c.args.multiples.now (i - 1) nothing in
    let f = form_of c.form_at-form.result.sum.now c.form_at-form.result.constant in
    let n = to_z w128 c.loop-i.constant-bits in
    rw (p.1, p.2) (λ e.
    adding_fails known (length c.args.values.now) c.args.multiples.now c.requires.sums i (i - 1) next c.loop-i.values c.loop-i.touched.items n c.loop-i.invariant m refl f c.form_at-form.ensures
    (subst (λ k. MayLeaveBy k c.loop-i.values n f) (same_bits m.factor (c.requires.multiples (i - 1) nothing inside).in_range) (c.in_err-constant.ensures.range e)))

pub loop-i-preserved : goal.loop-i-preserved
loop-i-preserved c =
    let known = knowns c.args.all.now c.args.entries.now in
    let i = c.loop-i.i in
    let t = c.loop-i-test.true in
    let within = c.loop-i.invariant.within in
    let next : i ≡ (i - 1) + 1 = omega arith in
    let inside : i - 1 < length c.args.multiples.now = omega arith in
    let m = get_or c.args.multiples.now (i - 1) nothing in
    let f = form_of c.form_at-form.result.sum.now c.form_at-form.result.constant in
    let n = to_z w128 c.loop-i.constant-bits in
    let o : ℤ = c.in_ok-constant.constant in
    let size = c.loop-i.invariant.size in
    let ok = c.in_ok-constant.ensures in
    subst (λ z. AddsUp (length c.args.values.now) (form_in known) c.args.multiples.now (i - 1) c.add_multiple.new.values c.add_multiple.new.touched.items z) (sym (same_bits o ok.in_range))
    (adding_step known (length c.args.values.now) c.args.multiples.now c.requires.sums i (i - 1) next c.loop-i.values c.loop-i.touched.items n c.loop-i.invariant m refl f c.form_at-form.ensures
    c.add_multiple.new.values c.add_multiple.new.touched.items o
    (subst (λ k. IsMore k c.loop-i.values c.add_multiple.new.values n o f) (same_bits m.factor (c.requires.multiples (i - 1) nothing inside).in_range)
    (record { fits = ok.fits; added = ok.ok; constant = ok.constant; ranged = c.add_multiple.ensures.ranged; in_range = ok.in_range }))
    c.add_multiple.ensures.touched (c.add_multiple.auto.values ∙ size))
