use Rattle.std.specs.Prelude.{◌≡◌, ◌<◌, length}
use Rattle.std.proofs.Common.{subst, sym, ap, ◌∙◌}
use Rattle.theory_combine.proofs.SettleEnds.{ListingLaws, values_of}
use Rattle.theory_combine.proofs.settle.values_by.Goals as goal

pub returns : goal.returns
returns c =
    let laws : ListingLaws = record {
      of_each = c.parts_hold_of_each.ensures;
      have_sorts = c.listed_values_have_sorts.ensures;
      truths_fit = c.listed_truths_fit.ensures;
      bounds_met = c.listed_bounds_are_met.ensures;
      of_forms = c.listed_numbers_are_of_forms.ensures;
    } in
    let count : c.len.result ≡ length c.args.parts.now.stack.now.trees = c.len.ensures.value ∙ ap length c.terms.ensures.trees in
    values_of laws c.args.parts.now c.args.progress.now c.args.closure.now c.requires.met.at_last c.requires.met.fits c.requires.met.whole c.requires.told c.requires.closure c.laws.ensures c.facts.ensures
    c.sorts-sorts.result.now c.sorts-sorts.ensures c.in_ok-truths.truths.items c.in_ok-classes.classes.items c.in_ok-truths.ensures.each
    (λ i less. c.in_ok-classes.ensures.each i (subst (λ n. i < n) (sym count) less))
    c.listed_values.result (λ vs. vs.items) c.deref.result.now c.deref-2.result.now c.deref-3.result.now c.deref.ensures.value c.deref-2.ensures.value c.deref-3.ensures.value
    c.listed_values.ensures.size c.listed_values.ensures.values c.listed_values.ensures.may_be c.listed_values.ensures.have
