use Rattle.std.proofs.Common.{◌∙◌, List, map, ap, sym}
use Rattle.std.specs.Prelude.{flat_map}
use Rattle.std.proofs.lemmas.Result.{IfOk-weaker}
use Rattle.smt_meaning.specs.State.{texts_of}
use Rattle.scope_stack.specs.declared.answers.Assertion.{Assertion}
use Rattle.session.specs.declared.above.Above.{Above}
use Rattle.session.specs.Above.{above_by}
use Rattle.session.proofs.Listing.{level_texts}
use Rattle.session.proofs.cores.texts_above.Goals as goal

pub returns-in-Assumed : goal.returns-in-Assumed
returns-in-Assumed c =
    IfOk-weaker c.texts_of.result _ _
    (λ v h ts.
    h ∙ ap (λ (xs : List Assertion). map (λ (a : Assertion). a.text) xs) c.as_slice.ensures ∙ level_texts ts c.in-Assumed.assumptions
    ∙ ap (λ (a : Above). flat_map texts_of (above_by ts a)) (sym c.in-Assumed.is))
    c.texts_of.ensures
