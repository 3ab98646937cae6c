use Rattle.std.proofs.Common.{◌≡◌, [], ◌∷◌, ◌++◌, sym, ap, ◌∙◌, subst, refl}
use Rattle.smt_meaning.specs.declared.tokens.Token.TheVariants.{Symbol}
use Rattle.smt_meaning.specs.Reading.{IsSExpr, single}
use Rattle.unit_tests.proofs.tests.steps.word.Goals as goal

pub into_sexpr-requires : goal.into_sexpr-requires
into_sexpr-requires c =
    let name = c.args.name.now in
    let same : c.push.new.self ≡ Symbol name ∷ [] = c.in_ok-push.ensures.ok ∙ ap (λ ts. ts ++ Symbol name ∷ []) c.new-tokens.ensures in
    subst (λ ts. IsSExpr ts) (sym same) ([], 0, single, refl, refl, refl)
