use Rattle.std.proofs.Common.{◌≡◌, ◌≢◌, ◌<◌, true, false, length, drop, ◌+◌, rules, to_z, sym, subst, ◌∙◌}
use Rattle.std.specs.Prelude.{ℤ}
use Rattle.std.specs.Int.{w128}
use Rattle.std.proofs.lemmas.Result.{err_from_is_err_and}
use Rattle.fraction128.proofs.Integers.{same_bits}
use Rattle.linear_forms.specs.Folding.{form_of}
use Rattle.linear_forms.specs.Entries.{knowns, forms_at}
use Rattle.linear_forms.proofs.FoldLemmas.{FoldsOn}
use Rattle.linear_forms.proofs.SumFolding.{all_ok, alone_ok, alone_fails, first_ok, first_fails, next_ok, next_fails, all_folded}
use Rattle.linear_forms.proofs.sums.fold_sum.Goals as goal
use Rattle.linear_forms.proofs.sums.fold_sum.Goals.{else-subtract-via-then-subtract+else-arguments-eq1, else-subtract-via-else-subtract}

pub returns-then-arguments-eq1-clause-ok : goal.returns-then-arguments-eq1-clause-ok
returns-then-arguments-eq1-clause-ok c =
    all_ok c.add_form.result _ _ _ _ c.add_form.ensures.constant c.add_form.ensures.in_range c.add_form.ensures.ok (λ n e m added.
    alone_ok (knowns c.args.all.now c.args.entries.now) (length c.args.values.now) c.args.subtract c.args.values.now c.requires.zero c.args.arguments.now
    (form_of c.form_at-first.result.sum.now c.form_at-first.result.constant) c.add_form.new.values n c.if-subtract.true c.if-arguments-eq1.true c.form_at-first.ensures c.requires.sums added e c.add_form.ensures.ranged m)

pub returns-then-arguments-eq1-clause-range : goal.returns-then-arguments-eq1-clause-range
returns-then-arguments-eq1-clause-range c = λ e.
    alone_fails (knowns c.args.all.now c.args.entries.now) (length c.args.values.now) c.args.subtract c.args.values.now c.requires.zero c.args.arguments.now
    (form_of c.form_at-first.result.sum.now c.form_at-first.result.constant) c.if-subtract.true c.if-arguments-eq1.true c.form_at-first.ensures (c.add_form.ensures.range e)

pub returns-in_err-constant-clause-range : goal.returns-in_err-constant-clause-range
returns-in_err-constant-clause-range c =
    let p = err_from_is_err_and c.from_residual.result c.from_residual.ensures.1 in
    let more : 0 < length c.args.arguments.now = search rules in
    rw (p.1, p.2) (λ e.
    first_fails (knowns c.args.all.now c.args.entries.now) (length c.args.values.now) c.args.subtract c.args.values.now c.requires.zero c.args.arguments.now
    (form_of c.form_at-first.result.sum.now c.form_at-first.result.constant) more c.form_at-first.ensures (c.in_err-constant.ensures.range e))

pub loop-i-init : goal.loop-i-init
loop-i-init c =
    let more : 0 < length c.args.arguments.now = search rules in
    let other : c.args.subtract ≡ true → length c.args.arguments.now ≢ 1 =
    elim c.else-subtract.branch [
      | else-subtract-via-then-subtract+else-arguments-eq1 w ↦ (λ t. w.if-arguments-eq1.false)
      | else-subtract-via-else-subtract w ↦ (λ t. let f : c.args.subtract ≡ false = w.if-subtract.false in let x : true ≡ false = sym t ∙ f in cc)
    ] in
    let n : ℤ = c.in_ok-constant.constant in
    subst (λ z. FoldsOn (length c.args.values.now) c.args.subtract (forms_at (knowns c.args.all.now c.args.entries.now) c.args.arguments.now) (forms_at (knowns c.args.all.now c.args.entries.now) (drop 1 c.args.arguments.now)) c.add_form-2.new.values c.add_form-2.new.touched.items z)
    (sym (same_bits n c.in_ok-constant.ensures.in_range))
    (first_ok (knowns c.args.all.now c.args.entries.now) (length c.args.values.now) c.args.subtract c.args.values.now c.requires.zero c.args.arguments.now
    (form_of c.form_at-first.result.sum.now c.form_at-first.result.constant) c.add_form-2.new.values c.add_form-2.new.touched.items n other more c.form_at-first.ensures c.requires.sums
    c.in_ok-constant.ensures.ok c.in_ok-constant.ensures.constant c.add_form-2.ensures.ranged c.in_ok-constant.ensures.in_range c.add_form-2.ensures.touched c.add_form-2.auto.values)

pub returns-in_err-constant-2-clause-range : goal.returns-in_err-constant-2-clause-range
returns-in_err-constant-2-clause-range c =
    let p = err_from_is_err_and c.from_residual-in_err-constant-2.result c.from_residual-in_err-constant-2.ensures.1 in
    rw (p.1, p.2) (λ e.
    next_fails (knowns c.args.all.now c.args.entries.now) (length c.args.values.now) c.args.subtract c.args.arguments.now c.requires.sums c.loop-i.i c.loop-i-test.true c.loop-i.values c.loop-i.touched.items
    (to_z w128 c.loop-i.constant-bits) c.loop-i.invariant (form_of c.form_at-form.result.sum.now c.form_at-form.result.constant) c.form_at-form.ensures (c.in_err-constant-2.ensures.range e))

pub loop-i-preserved : goal.loop-i-preserved
loop-i-preserved c =
    let n : ℤ = c.in_ok-constant-2.constant in
    let size = c.loop-i.invariant.size in
    subst (λ z. FoldsOn (length c.args.values.now) c.args.subtract (forms_at (knowns c.args.all.now c.args.entries.now) c.args.arguments.now) (forms_at (knowns c.args.all.now c.args.entries.now) (drop (c.loop-i.i + 1) c.args.arguments.now)) c.add_form-in-loop-i.new.values c.add_form-in-loop-i.new.touched.items z)
    (sym (same_bits n c.in_ok-constant-2.ensures.in_range))
    (next_ok (knowns c.args.all.now c.args.entries.now) (length c.args.values.now) c.args.subtract c.args.arguments.now c.requires.sums c.loop-i.i c.loop-i-test.true c.loop-i.values c.loop-i.touched.items
    (to_z w128 c.loop-i.constant-bits) c.loop-i.invariant (form_of c.form_at-form.result.sum.now c.form_at-form.result.constant) c.form_at-form.ensures
    c.add_form-in-loop-i.new.values c.add_form-in-loop-i.new.touched.items n c.in_ok-constant-2.ensures.ok c.in_ok-constant-2.ensures.constant c.add_form-in-loop-i.ensures.ranged c.in_ok-constant-2.ensures.in_range
    c.add_form-in-loop-i.ensures.touched (c.add_form-in-loop-i.auto.values ∙ size))

pub returns-clause-ok : goal.returns-clause-ok
returns-clause-ok c =
    all_folded (knowns c.args.all.now c.args.entries.now) (length c.args.values.now) c.args.subtract c.args.arguments.now c.loop-i.i c.loop-i.values c.loop-i.touched.items (to_z w128 c.loop-i.constant-bits) c.loop-i-test.false c.loop-i.invariant
