use Rattle.std.proofs.Common.{[], ◌∷◌, ◌++◌, pos, ap, ◌∙◌, sym, subst, get_or, to_z, of_z}
use Rattle.std.specs.Int.{w128}
use Rattle.fraction128.specs.Whole.{InRange}
use Rattle.fraction128.proofs.Integers.{same_bits}
use Rattle.smt_meaning.specs.declared.clauses.Summand.{Summand}
use Rattle.pair_bounds.proofs.NormalLemmas.{coefficient_at}
use Rattle.linear_forms.specs.Sums.{signed}
use Rattle.proof_form.specs.FarkasSums.{entry}
use Rattle.proof_form.proofs.FarkasMaking.{making_fails, making_step}
use Rattle.proof_form.proofs.farkas_entries.add_entries.Goals as goal

abbrev zero : Summand
zero = record { coefficient = pos 0; term = 0 }

pub turned-requires : goal.turned-requires
turned-requires c =
    let fits : InRange (get_or c.args.sum.now c.loop-summand.summand-index zero).coefficient = coefficient_at c.args.sum.now c.loop-summand.summand-index zero c.loop-summand-test.true c.requires in
    subst InRange (sym (same_bits (get_or c.args.sum.now c.loop-summand.summand-index zero).coefficient fits)) fits

pub returns-in-None-clause-inside : goal.returns-in-None-clause-inside
returns-in-None-clause-inside c =
    let fits : InRange (get_or c.args.sum.now c.loop-summand.summand-index zero).coefficient = coefficient_at c.args.sum.now c.loop-summand.summand-index zero c.loop-summand-test.true c.requires in
    making_fails c.args.multiplier c.args.positive c.args.sum.now c.args.entries.now.items c.loop-summand.summand-index c.loop-summand.entries.items c.loop-summand.invariant zero c.loop-summand-test.true
    (to_z w128 (of_z w128 c.turned.result)) (same_bits c.turned.result c.turned.ensures.in_range ∙ c.turned.ensures.value ∙ ap (signed c.args.positive) (same_bits (get_or c.args.sum.now c.loop-summand.summand-index zero).coefficient fits)) (c.in-None.ensures.none)

pub loop-summand-preserved : goal.loop-summand-preserved
loop-summand-preserved c =
    let fits : InRange (get_or c.args.sum.now c.loop-summand.summand-index zero).coefficient = coefficient_at c.args.sum.now c.loop-summand.summand-index zero c.loop-summand-test.true c.requires in
    making_step c.args.multiplier c.args.positive c.args.sum.now c.args.entries.now.items c.loop-summand.summand-index c.loop-summand.entries.items c.loop-summand.invariant zero c.loop-summand-test.true
    (to_z w128 (of_z w128 c.turned.result)) (same_bits c.turned.result c.turned.ensures.in_range ∙ c.turned.ensures.value ∙ ap (signed c.args.positive) (same_bits (get_or c.args.sum.now c.loop-summand.summand-index zero).coefficient fits))
    c.push.new.self.items c.in-Some.ensures.some.0 (c.in_ok-push-in-Some.ensures.items
    ∙ ap (λ m. c.loop-summand.entries.items ++ entry (get_or c.args.sum.now c.loop-summand.summand-index zero).term m ∷ []) c.in-Some.ensures.some.1)
