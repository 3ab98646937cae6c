use Rattle.std.proofs.Common.{◌≡◌, ◌∷◌, [], ◌++◌, List, ◌∙◌, ap, sym, subst}
use Rattle.std.proofs.lemmas.Int.{to_z-of_z}
use mir.Syntax.{w128}
use Rattle.smt_meaning.specs.declared.tokens.Token.{Token}
use Rattle.smt_meaning.specs.declared.tokens.Token.TheVariants.{Leave}
use Rattle.smt_meaning.specs.Goal.{number_text, pair_text}
use Rattle.smt_meaning.specs.Reading.{IsSExpr, IsInner}
use Rattle.goal_search.proofs.Texts.{compared_is}
use Rattle.goal_search.proofs.text.compared.Goals as goal

pub into_sexpr-requires : goal.into_sexpr-requires
into_sexpr-requires c =
    let t : List Token = c.sexpr-sexpr.result.now in
    let number : c.append_number.new.tokens ≡ c.in_ok-tokens.tokens ++ number_text c.args.number =
    c.in_ok-append_number.ensures ∙ ap (λ k. c.in_ok-tokens.tokens ++ number_text k) (to_z-of_z w128 c.args.number c.ranges.number) in
    let whole : c.push.new.self ≡ pair_text c.args.operator.now t (number_text c.args.number) =
    c.in_ok-push.ensures.ok ∙ ap (λ (ts : List Token). ts ++ Leave ∷ []) (number ∙ ap (λ (ts : List Token). ts ++ number_text c.args.number) c.in_ok-tokens.ensures) in
    let inner : IsInner t = subst IsInner (sym c.sexpr-sexpr.ensures.same) c.sexpr-sexpr.ensures.inner in
    subst IsSExpr (sym whole) (compared_is c.tokens_read_back.ensures c.s_expressions_read_back.ensures c.trees_are_s_expressions.ensures t c.len.ensures.matched inner c.args.operator.now c.args.number)
