use Rattle.std.proofs.Common.{◌≡◌, [], ◌∷◌, ◌++◌, sym, ap, ◌∙◌, subst, refl, lit<}
use Rattle.smt_meaning.specs.declared.tokens.Token.TheVariants.{Enter, Leave, Symbol}
use Rattle.smt_meaning.specs.Reading.{IsSExpr, opening, single, closing}
use Rattle.unit_tests.proofs.tests.steps.application.Goals as goal

pub into_sexpr-requires : goal.into_sexpr-requires
into_sexpr-requires c =
    let f = c.args.function.now in
    let x = c.args.argument.now in
    let same : c.push-4.new.self ≡ Enter ∷ Symbol f ∷ Symbol x ∷ Leave ∷ [] =
    c.in_ok-push-4.ensures.ok ∙ ap (λ ts. ts ++ Leave ∷ [])
    (c.in_ok-push-3.ensures.ok ∙ ap (λ ts. ts ++ Symbol x ∷ [])
    (c.in_ok-push-2.ensures.ok ∙ ap (λ ts. ts ++ Symbol f ∷ [])
    (c.in_ok-push.ensures.ok ∙ ap (λ ts. ts ++ Enter ∷ []) c.new-tokens.ensures))) in
    subst (λ ts. IsSExpr ts) (sym same)
    (opening ∷ single ∷ single ∷ [], 1, closing, refl, (lit< tt, (lit< tt, (lit< tt, refl))), refl)
