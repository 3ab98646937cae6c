use Rattle.std.proofs.Common.{to_z, of_z, ap, subst, sym, ◌∙◌}
use Rattle.std.specs.Int.{w128}
use Rattle.fraction128.specs.Whole.{InRange}
use Rattle.smt_meaning.specs.declared.clauses.Atom.TheVariants.{AtMost}
use Rattle.smt_meaning.specs.Atoms.{divided, each_divided}
use Rattle.fraction128.proofs.Integers.{same_bits}
use Rattle.pair_bounds.proofs.NormalLemmas.{normal_already, normal_divided, normal_fits, normal_order, at_most_one, more_than_one, quotient_in_range_by}
use Rattle.pair_bounds.proofs.normal.normalize.Goals as goal

pub returns-then-divisor-le1-clause-bound : goal.returns-then-divisor-le1-clause-bound
returns-then-divisor-le1-clause-bound c =
    ap (AtMost c.args.sum.now) (same_bits c.args.threshold c.requires.in_range)
    ∙ normal_already c.args.sum.now c.args.threshold c.requires.no_zero
    (at_most_one c.args.sum.now c.divisor_of-divisor.result c.divisor_of-divisor.ensures.value c.divisor_of-divisor.ensures.in_range c.if-divisor-le1.true)

pub returns-clause-fits : goal.returns-clause-fits
returns-clause-fits c =
    normal_fits c.args.sum.now c.divisor_of-divisor.result c.divisor_of-divisor.ensures.value c.divide.new.sum c.requires.fits
    (c.divide.ensures ∙ ap (λ g. each_divided g c.args.sum.now) (same_bits c.divisor_of-divisor.result c.divisor_of-divisor.ensures.in_range))

pub returns-clause-order : goal.returns-clause-order
returns-clause-order c =
    normal_order c.args.sum.now c.divisor_of-divisor.result c.divisor_of-divisor.ensures.value c.divide.new.sum
    (c.divide.ensures ∙ ap (λ g. each_divided g c.args.sum.now) (same_bits c.divisor_of-divisor.result c.divisor_of-divisor.ensures.in_range))

pub returns-clause-bound : goal.returns-clause-bound
returns-clause-bound c =
    let g = c.divisor_of-divisor.result in
    let same = same_bits g c.divisor_of-divisor.ensures.in_range in
    let e = c.quotient.ensures ∙ ap (λ k. divided k (to_z w128 (of_z w128 g))) (same_bits c.args.threshold c.requires.in_range) ∙ ap (divided c.args.threshold) same in
    let r : InRange c.quotient.result = subst InRange (sym e) (quotient_in_range_by c.args.threshold g c.requires.in_range c.divisor_of-divisor.ensures.value) in
    ap (AtMost c.divide.new.sum) (same_bits c.quotient.result r)
    ∙ normal_divided c.args.sum.now g c.divisor_of-divisor.ensures.value c.args.threshold c.divide.new.sum c.quotient.result
    (more_than_one c.args.sum.now g c.divisor_of-divisor.ensures.value c.divisor_of-divisor.ensures.in_range c.if-divisor-le1.false)
    (c.divide.ensures ∙ ap (λ z. each_divided z c.args.sum.now) same) e

pub returns-clause-in_range : goal.returns-clause-in_range
returns-clause-in_range c =
    let g = c.divisor_of-divisor.result in
    let e = c.quotient.ensures ∙ ap (λ k. divided k (to_z w128 (of_z w128 g))) (same_bits c.args.threshold c.requires.in_range) ∙ ap (divided c.args.threshold) (same_bits g c.divisor_of-divisor.ensures.in_range) in
    let r : InRange c.quotient.result = subst InRange (sym e) (quotient_in_range_by c.args.threshold g c.requires.in_range c.divisor_of-divisor.ensures.value) in
    subst InRange (sym (same_bits c.quotient.result r)) r
