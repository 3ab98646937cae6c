use Rattle.std.proofs.Common.{◌≡◌, ap, ◌∙◌}
use Rattle.fraction128.specs.declared.ratio.Ratio.{Ratio}
use Rattle.smt_meaning.specs.declared.values.Value.TheVariants.{Whole}
use Rattle.smt_meaning.specs.Term.{number_of}
use Rattle.sum_bounds.specs.Bounds.{leaf_values}
use Rattle.sum_bounds.proofs.Leaves.{whole_leaf}
use Rattle.exact_model.proofs.Listing.{leaf_has, listed_leaf}
use Rattle.exact_model.proofs.leaves.leaf_value.Goals as goal

pub returns : goal.returns
returns c =
    let b = c.args.bounds.now in
    let p = c.args.place in
    let e : c.unwrap-value.result ≡ leaf_values b.bounds p = rw c.unwrap-value.ensures at c.value.ensures.some in
    let one : c.unwrap-value.result.denominator ≡ 1 = ap (λ (x : Ratio). x.denominator) e ∙ whole_leaf b.bounds.columns p c.requires.wholes in
    listed_leaf b p c.whole_of.result c.whole_of.ensures.in_range
    (record {
      number = c.whole_of.ensures.whole ∙ ap (λ (x : Ratio). Whole x.numerator) e;
      has = leaf_has b p c.unwrap-value.result (number_of c.whole_of.result) c.facts.ensures c.requires.variable e one (ap number_of c.whole_of.ensures.whole);
    })
