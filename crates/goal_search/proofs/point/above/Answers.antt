use Rattle.std.proofs.Common.{◌≡◌, ◌∙◌, refl, ap, sym, subst}
use Rattle.std.specs.Prelude.{IsTrue}
use Rattle.smt_meaning.specs.Interpretation.{meaning}
use Rattle.smt_meaning.specs.Term.{fits, number_of, tree_at, value}
use Rattle.goal_search.proofs.Above.{no_range, value_above}
use Rattle.goal_search.proofs.point.above.Goals as goal

pub unreachable-requires : goal.unreachable-requires
unreachable-requires c =
    no_range (meaning c.args.model.now) c.terms.result.now.trees (tree_at c.terms.result.now.trees c.args.term) c.in-Err-Range.field-0 c.in-Err-Range.field-0-0 c.in-Err-Range.field-0-is
    c.in-Err-Range.ensures.cause (subst (λ ts. IsTrue (fits (meaning c.args.model.now) (tree_at ts c.args.term))) (sym c.terms.ensures.trees) c.requires.fits)

pub returns-in-Ok-clause-value : goal.returns-in-Ok-clause-value
returns-in-Ok-clause-value c =
    let t = tree_at c.args.stack.now.trees c.args.term in
    let number : c.number_of.result ≡ number_of (value (meaning c.args.model.now) t) =
    c.number_of.ensures ∙ ap number_of (c.in-Ok.ensures.value ∙ ap (λ ts. value (meaning c.args.model.now) (tree_at ts c.args.term)) c.terms.ensures.trees) in
    (value_above (meaning c.args.model.now) t _ c.number_of.result c.abs_diff.result c.requires.fits refl number c.abs_diff.ensures).0

pub returns-in-Ok-clause-within : goal.returns-in-Ok-clause-within
returns-in-Ok-clause-within c =
    let t = tree_at c.args.stack.now.trees c.args.term in
    let number : c.number_of.result ≡ number_of (value (meaning c.args.model.now) t) =
    c.number_of.ensures ∙ ap number_of (c.in-Ok.ensures.value ∙ ap (λ ts. value (meaning c.args.model.now) (tree_at ts c.args.term)) c.terms.ensures.trees) in
    (value_above (meaning c.args.model.now) t _ c.number_of.result c.abs_diff.result c.requires.fits refl number c.abs_diff.ensures).1
