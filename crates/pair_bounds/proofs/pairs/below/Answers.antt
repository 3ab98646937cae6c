use Rattle.std.proofs.Common.{ap, length, arith, ◌∙◌, subst, sym}
use Rattle.std.specs.Prelude.{pos, ◌-ℤ◌, neg_ℤ}
use Rattle.fraction128.specs.Whole.{InRange}
use Rattle.fraction128.proofs.Integers.{same_bits}
use Rattle.linear_forms.specs.Folding.{form_of}
use Rattle.linear_forms.proofs.FoldLemmas.{form_constant}
use Rattle.pair_bounds.proofs.PairLemmas.{written_back, difference_no_zero, is_below}
use Rattle.pair_bounds.proofs.pairs.below.Goals as goal

pub normalize-requires-clause-no_zero : goal.normalize-requires-clause-no_zero
normalize-requires-clause-no_zero c =
    difference_no_zero c.requires.known.trees c.args.left c.args.right c.difference.new.sum.items c.in_ok-constant.constant (c.in_ok-constant.ensures.ok c.requires.known.trees c.requires.known.forms)
    c.deref_mut.result.now c.deref_mut.ensures.value

pub returns-in-Some-clause-ok : goal.returns-in-Some-clause-ok
returns-in-Some-clause-ok c = λ trees h.
    let items = c.difference.new.sum.items in
    let d = c.in_ok-constant.ensures.ok trees h in
    let size = c.normalize.auto.sum in
    let seen = ap length c.deref_mut.ensures.value in
    let count = c.deref_mut.ensures.len in
    let r : InRange c.in-Some.threshold = c.in-Some.ensures.some.1 in
    let bits = same_bits c.in-Some.threshold r in
    is_below trees c.args.left c.args.right items c.in_ok-constant.constant d c.deref_mut.result.now c.normalize.new.sum _ _ c.normalize.result _ c.deref_mut.ensures.value
    (written_back items c.normalize.new.sum c.difference.new.sum.len (omega arith) (omega arith)) (same_bits c.normalize.result c.normalize.ensures.in_range) c.normalize.ensures.bound c.normalize.ensures.fits
    c.normalize.ensures.in_range c.normalize.ensures.order
    (bits ∙ c.in-Some.ensures.some.0 ∙ ap (λ z. neg_ℤ z -ℤ pos 1) (same_bits c.in_ok-constant.constant (form_constant (form_of items c.in_ok-constant.constant) d.ranges))) (subst InRange (sym bits) r)
