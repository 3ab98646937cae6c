use Rattle.std.proofs.Common.{ap, to_z, of_z, length, arith, ◌∙◌, subst, sym}
use Rattle.std.specs.Prelude.{◌-ℤ◌}
use Rattle.std.specs.Int.{w128}
use Rattle.fraction128.specs.Whole.{InRange}
use Rattle.fraction128.proofs.Integers.{same_bits}
use Rattle.linear_forms.specs.Folding.{form_of}
use Rattle.linear_forms.proofs.FoldLemmas.{form_constant}
use Rattle.pair_bounds.proofs.PairLemmas.{written_back, sum_no_zero, is_bound}
use Rattle.pair_bounds.proofs.RowLemmas.{is_row_bound, most_outside}
use Rattle.pair_bounds.proofs.rows.row_bound.Goals as goal

pub normalize-requires-clause-no_zero : goal.normalize-requires-clause-no_zero
normalize-requires-clause-no_zero c =
    let k = c.requires.known in
    let d = c.in_ok-constant.ensures.ok k.trees k.forms in
    sum_no_zero k.trees c.combine.new.sum.items d.is_sum c.deref_mut.result.now c.deref_mut.ensures.value

pub returns-in-Some-clause-ok : goal.returns-in-Some-clause-ok
returns-in-Some-clause-ok c = λ trees h.
    let items = c.combine.new.sum.items in
    let d = c.in_ok-constant.ensures.ok trees h in
    let size = c.normalize.auto.sum in
    let seen = ap length c.deref_mut.ensures.value in
    let count = c.deref_mut.ensures.len in
    let r : InRange c.in-Some.threshold = c.in-Some.ensures.some.1 in
    let bits = same_bits c.in-Some.threshold r in
    let same = ap (λ z. to_z w128 (of_z w128 c.args.limit.most) -ℤ z) (same_bits c.in_ok-constant.constant (form_constant (form_of items c.in_ok-constant.constant) d.ranges)) ∙ ap (λ z. z -ℤ c.in_ok-constant.constant) (same_bits c.args.limit.most c.requires.limit.in_range) in
    is_row_bound trees c.args.limit items c.in_ok-constant.constant d _ _ _
    (bits ∙ c.in-Some.ensures.some.0 ∙ same) (subst InRange (sym bits) r)
    (is_bound trees items d.is_sum c.deref_mut.result.now c.normalize.new.sum _ _ c.normalize.result _ c.deref_mut.ensures.value
    (written_back items c.normalize.new.sum c.combine.new.sum.len (omega arith) (omega arith)) (same_bits c.normalize.result c.normalize.ensures.in_range) c.normalize.ensures.bound c.normalize.ensures.fits
    c.normalize.ensures.in_range c.normalize.ensures.order)

pub returns-in-None-clause-err : goal.returns-in-None-clause-err
returns-in-None-clause-err c = λ trees h.
    let d = c.in_ok-constant.ensures.ok trees h in
    let same = ap (λ z. to_z w128 (of_z w128 c.args.limit.most) -ℤ z) (same_bits c.in_ok-constant.constant (form_constant (form_of c.combine.new.sum.items c.in_ok-constant.constant) d.ranges)) ∙ ap (λ z. z -ℤ c.in_ok-constant.constant) (same_bits c.args.limit.most c.requires.limit.in_range) in
    most_outside trees c.args.limit c.combine.new.sum.items c.in_ok-constant.constant d
    (subst (λ z. InRange z → ⊥) same c.in-None.ensures.none)
