use Rattle.std.proofs.Common.{◌≡◌, ◌∷◌, [], ◌++◌, List, ◌∙◌, ap, sym, subst}
use Rattle.std.specs.Prelude.{codes}
use Rattle.smt_meaning.specs.declared.tokens.Token.{Token}
use Rattle.smt_meaning.specs.declared.tokens.Token.TheVariants.{Leave}
use Rattle.smt_meaning.specs.Goal.{pair_text}
use Rattle.smt_meaning.specs.Reading.{IsSExpr, IsInner}
use Rattle.goal_search.proofs.Texts.{itself_is}
use Rattle.goal_search.proofs.text.itself.Goals as goal

pub into_sexpr-requires : goal.into_sexpr-requires
into_sexpr-requires c =
    let t : List Token = c.sexpr-sexpr.result.now in
    let whole : c.push.new.self ≡ pair_text (codes "=") t t =
    c.in_ok-push.ensures.ok ∙ ap (λ (ts : List Token). ts ++ Leave ∷ []) (c.in_ok-append.ensures ∙ ap (λ (ts : List Token). ts ++ t) c.in_ok-tokens.ensures) in
    let inner : IsInner t = subst IsInner (sym c.sexpr-sexpr.ensures.same) c.sexpr-sexpr.ensures.inner in
    subst IsSExpr (sym whole) (itself_is c.tokens_read_back.ensures c.s_expressions_read_back.ensures c.trees_are_s_expressions.ensures t c.len.ensures.matched inner)
