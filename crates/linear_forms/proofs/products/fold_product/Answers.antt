use Rattle.std.proofs.Common.{◌≡◌, ◌<◌, ◌+◌, true, length, drop, rules, to_z, sym, subst}
use Rattle.std.specs.Prelude.{ℤ}
use Rattle.std.specs.Int.{w128}
use Rattle.std.proofs.lemmas.Result.{err_from_is_err_and}
use Rattle.fraction128.proofs.Integers.{same_bits}
use Rattle.smt_meaning.specs.Linear.{form_fits}
use Rattle.linear_forms.specs.Folding.{form_of, IsMultiplying}
use Rattle.linear_forms.specs.Entries.{knowns, forms_at}
use Rattle.linear_forms.proofs.ProductLemmas.{product_next, product_fails, product_all, product_all_fits}
use Rattle.linear_forms.proofs.FoldLemmas.{form_constant}
use Rattle.linear_forms.proofs.products.fold_product.Goals as goal

pub returns-in_err-constant-clause-range : goal.returns-in_err-constant-clause-range
returns-in_err-constant-clause-range c =
    let p = err_from_is_err_and c.from_residual.result c.from_residual.ensures.1 in
    rw (p.1, p.2) (λ e.
    product_fails (knowns c.args.all.now c.args.entries.now) c.args.arguments.now c.loop-place.place-index c.loop-place-test.true (form_of c.loop-place.product.items (to_z w128 c.loop-place.constant-bits))
    (form_of c.form_at-form.result.sum.now c.form_at-form.result.constant) c.form_at-form.ensures c.loop-place.invariant (c.in_err-constant.ensures.range e))

pub loop-place-preserved : goal.loop-place-preserved
loop-place-preserved c =
    let n : ℤ = c.in_ok-constant.constant in
    let fits = subst (λ f. form_fits f ≡ true) (sym c.in_ok-constant.ensures.ok) c.in_ok-constant.ensures.fits in
    subst (λ z. IsMultiplying (forms_at (knowns c.args.all.now c.args.entries.now) c.args.arguments.now) (forms_at (knowns c.args.all.now c.args.entries.now) (drop (c.loop-place.place-index + 1) c.args.arguments.now)) (form_of c.times_form.new.product.items z)) (sym (same_bits n (form_constant (form_of c.times_form.new.product.items n) fits)))
    (product_next (knowns c.args.all.now c.args.entries.now) c.args.arguments.now c.loop-place.place-index c.loop-place-test.true (form_of c.loop-place.product.items (to_z w128 c.loop-place.constant-bits))
    (form_of c.form_at-form.result.sum.now c.form_at-form.result.constant) c.form_at-form.ensures c.loop-place.invariant (form_of c.times_form.new.product.items n) c.in_ok-constant.ensures.ok c.in_ok-constant.ensures.fits)

pub returns-clause-ok : goal.returns-clause-ok
returns-clause-ok c =
    let some : 0 < length c.args.arguments.now = search rules in
    product_all (knowns c.args.all.now c.args.entries.now) c.args.arguments.now some c.loop-place.place-index c.loop-place-test.false (form_of c.loop-place.product.items (to_z w128 c.loop-place.constant-bits)) c.loop-place.invariant

pub returns-clause-fits : goal.returns-clause-fits
returns-clause-fits c =
    let some : 0 < length c.args.arguments.now = search rules in
    product_all_fits (knowns c.args.all.now c.args.entries.now) c.args.arguments.now some c.loop-place.place-index c.loop-place-test.false (form_of c.loop-place.product.items (to_z w128 c.loop-place.constant-bits)) c.loop-place.invariant
