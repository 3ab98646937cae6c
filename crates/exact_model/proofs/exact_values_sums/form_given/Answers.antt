use Rattle.std.proofs.Common.{◌≡◌, ◌++◌, ap, sym, subst, ◌∙◌, All, ◌<◌}
use Rattle.fraction128.specs.Whole.{InRange}
use Rattle.fraction128.proofs.Integers.{same_bits}
use Rattle.smt_meaning.specs.declared.values.Value.TheVariants.{Whole}
use Rattle.model_build.specs.declared.given.Given.TheVariants.{InRange as IsGiven}
use Rattle.smt_meaning.specs.declared.clauses.Summand.{Summand}
use Rattle.linear_forms.specs.Folding.{form_of}
use Rattle.fraction128.specs.Dot.{dot_of}
use Rattle.exact_model.specs.Sums.{pairs_of, number_of_place}
use Rattle.exact_model.proofs.Comparing.{dot_form, form_number, form_within, number_in, number_past}
use Rattle.exact_model.proofs.exact_values_sums.form_given.Goals as goal

pub add_summands-requires : goal.add_summands-requires
add_summands-requires c =
    subst (λ n. All (λ (s : Summand). s.term < n) c.form-form.result.sum.now) (sym c.requires.listed.size)
    (form_within c.args.listed.now.store.now.trees c.args.place _ (form_of c.form-form.result.sum.now c.form-form.result.constant) c.requires.within c.form-form.ensures)

pub returns-in-Some : goal.returns-in-Some
returns-in-Some c =
    let total : dot_of c.form-form.result.constant c.deref.result.now ≡ number_of_place c.args.listed.now.store.now.trees c.args.listed.now.values.now c.args.place =
    ap (dot_of c.form-form.result.constant) (c.deref.ensures.value ∙ c.in_ok-add_summands.ensures ∙ ap (λ ps. ps ++ pairs_of c.args.listed.now.values.now c.form-form.result.sum.now) c.clear.ensures.items)
    ∙ dot_form c.args.listed.now.values.now c.form-form.result.sum.now c.form-form.result.constant
    ∙ sym (form_number c.args.listed.now.store.now.trees c.args.listed.now.values.now c.args.place (form_of c.form-form.result.sum.now c.form-form.result.constant) c.form-form.ensures.form) in
    c.whole_given.ensures ∙ ap (λ n. IsGiven (Whole n)) (same_bits c.in-Some.number c.in-Some.ensures.some.1)
    ∙ number_in (number_of_place c.args.listed.now.store.now.trees c.args.listed.now.values.now c.args.place) c.in-Some.number (c.in-Some.ensures.some.0 ∙ total) c.in-Some.ensures.some.1

pub returns-in-None : goal.returns-in-None
returns-in-None c =
    let total : dot_of c.form-form.result.constant c.deref.result.now ≡ number_of_place c.args.listed.now.store.now.trees c.args.listed.now.values.now c.args.place =
    ap (dot_of c.form-form.result.constant) (c.deref.ensures.value ∙ c.in_ok-add_summands.ensures ∙ ap (λ ps. ps ++ pairs_of c.args.listed.now.values.now c.form-form.result.sum.now) c.clear.ensures.items)
    ∙ dot_form c.args.listed.now.values.now c.form-form.result.sum.now c.form-form.result.constant
    ∙ sym (form_number c.args.listed.now.store.now.trees c.args.listed.now.values.now c.args.place (form_of c.form-form.result.sum.now c.form-form.result.constant) c.form-form.ensures.form) in
    number_past (number_of_place c.args.listed.now.store.now.trees c.args.listed.now.values.now c.args.place) (λ inside. c.in-None.ensures.none (subst InRange (sym total) inside))
