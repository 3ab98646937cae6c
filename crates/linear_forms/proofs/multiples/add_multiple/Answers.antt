use Rattle.std.proofs.Common.{rules, ◌⊎◌, ◌≡◌, inr, length, to_z, of_z, sym, subst, ap, ◌∙◌, true}
use Rattle.std.specs.Prelude.{IfOk, false, ◌+ℤ◌}
use Rattle.std.specs.Int.{w128}
use Rattle.std.proofs.lemmas.Int.{to_z-of_z}
use Rattle.fraction128.specs.Whole.{InRange}
use Rattle.fraction128.proofs.Integers.{same_bits}
use Rattle.smt_meaning.specs.Linear.{Form, form_times, form_fits}
use Rattle.linear_forms.specs.Sums.{IsSum}
use Rattle.linear_forms.specs.Scratch.{IsAdded, LeavesRange}
use Rattle.linear_forms.specs.Folding.{form_of}
use Rattle.linear_forms.proofs.SumLemmas.{sum_times_sum}
use Rattle.linear_forms.proofs.FoldLemmas.{form_constant}
use Rattle.linear_forms.proofs.MultipleLemmas.{leaves_as}
use Rattle.linear_forms.proofs.multiples.add_multiple.Goals as goal
use Rattle.linear_forms.proofs.multiples.add_multiple.Goals.{After-deref}

same_constant : (c : After-deref) → to_z w128 (of_z w128 c.args.form.constant) ≡ c.args.form.constant
same_constant c = search rules

same : (c : After-deref) → form_times (to_z w128 (of_z w128 c.args.factor)) (form_of c.args.form.sum.now (to_z w128 (of_z w128 c.args.form.constant))) ≡ form_times c.args.factor (form_of c.args.form.sum.now c.args.form.constant)
same c =
    ap (λ k. form_times k (form_of c.args.form.sum.now (to_z w128 (of_z w128 c.args.form.constant)))) (to_z-of_z w128 c.args.factor c.ranges.factor)
    ∙ ap (λ n. form_times c.args.factor (form_of c.args.form.sum.now n)) (same_constant c)

made : (c : After-deref) → form_of c.scaled_form.new.out.items c.in_ok-product.product ≡ form_times c.args.factor (form_of c.args.form.sum.now c.args.form.constant)
made c = c.in_ok-product.ensures.ok ∙ same c

seen : (c : After-deref) → c.deref.result.now ≡ (form_times c.args.factor (form_of c.args.form.sum.now c.args.form.constant)).sum
seen c = c.deref.ensures.value ∙ ap (λ (f : Form). f.sum) (made c)

pub add_form-requires-clause-sum : goal.add_form-requires-clause-sum
add_form-requires-clause-sum c =
    let d = (goal.at.add_form-requires-clause-sum c).After-deref in
    subst (IsSum (length c.args.values.now)) (sym (seen d)) (sum_times_sum (length c.args.values.now) c.args.factor c.args.form.sum.now c.requires.sum)

pub returns-clause-ok : goal.returns-clause-ok
returns-clause-ok c =
    let d = (goal.at.returns-clause-ok c).After-deref in
    subst (λ ps. IfOk c.add_form.result (λ n. IsAdded false c.args.values.now c.add_form.new.values ps)) (seen d) c.add_form.ensures.ok

pub returns-clause-range : goal.returns-clause-range
returns-clause-range c = λ e.
    let d = (goal.at.returns-clause-range c).After-deref in
    let f : Form = form_times c.args.factor (form_of c.args.form.sum.now c.args.form.constant) in
    let n = c.in_ok-product.product in
    let constant = ap (λ (f : Form). f.constant) (made d) in
    let fits : form_fits f ≡ true =
    subst (λ (g : Form). form_fits g ≡ true) (same d) c.in_ok-product.ensures.fits in
    inr (subst (λ z. (InRange (z +ℤ f.constant) → ⊥) ⊎ LeavesRange false c.args.values.now f.sum) (to_z-of_z w128 c.args.constant c.ranges.constant)
    (leaves_as c.args.values.now _ _ _ f (same_bits n (subst InRange (sym constant) (form_constant f fits)) ∙ constant) (seen d) (c.add_form.ensures.range e)))
