use Rattle.std.proofs.Common.{◌≡◌, ◌<◌, ◌≤◌, ℕ, ◌++◌, ◌∷◌, [], List, sym, ap, subst, ◌∙◌, arith, take, length}
use Rattle.std.specs.Prelude.{codes}
use Rattle.std.proofs.lemmas.List.{take_more, take_all}
use Rattle.smt_meaning.specs.declared.tokens.Token.{Token}
use Rattle.smt_meaning.specs.declared.tokens.Token.TheVariants.{Enter, Leave, Symbol}
use Rattle.smt_meaning.specs.Reading.{IsSExpr, IsInner}
use Rattle.smt_meaning.specs.Seen.{seen}
use Rattle.session.specs.Minimized.{negation}
use Rattle.session.proofs.LeastSteps.{negation_is}
use Rattle.session.proofs.negated.negated.Goals as goal

closed : (text before after : List Token) (n : ℕ) → length text ≤ n → before ≡ Enter ∷ Symbol (codes "-") ∷ take n text → after ≡ before ++ Leave ∷ [] → after ≡ negation text
closed text before after n past b a = a ∙ ap (λ ts. ts ++ Leave ∷ []) b ∙ ap (λ ts. Enter ∷ Symbol (codes "-") ∷ (ts ++ Leave ∷ [])) (take_all n text past)

pub loop-place-init : goal.loop-place-init
loop-place-init c = c.in_ok-push-2.ensures.ok ∙ ap (λ ts. ts ++ Symbol (codes "-") ∷ []) (c.in_ok-push.ensures.ok ∙ ap (λ ts. ts ++ Enter ∷ []) c.new-tokens.ensures)

pub token-requires : goal.token-requires
token-requires c = omega (arith, c.loop-place-test.true, c.len-place-end.ensures.len)

pub loop-place-preserved : goal.loop-place-preserved
loop-place-preserved c =
    let place = c.loop-place.place in
    let text = c.sexpr-sexpr.result.now in
    let within : place < length text = omega (arith, c.loop-place-test.true, c.len-place-end.ensures.len) in
    c.in_ok-push-3.ensures.ok ∙ ap (λ ts. ts ++ seen c.token.result ∷ []) c.loop-place.invariant
    ∙ ap (λ ts. Enter ∷ Symbol (codes "-") ∷ ts) (ap (λ t. take place text ++ t ∷ []) (sym (c.token.ensures.index Enter)) ∙ sym (take_more text place Enter within))

pub into_sexpr-requires : goal.into_sexpr-requires
into_sexpr-requires c =
    let text : List Token = c.sexpr-sexpr.result.now in
    let whole : c.push-3.new.self ≡ negation text =
    closed text c.loop-place.tokens c.push-3.new.self c.loop-place.place (omega (arith, c.loop-place-test.false, c.len-place-end.ensures.len)) c.loop-place.invariant c.in_ok-push-4.ensures.ok in
    subst IsSExpr (sym whole) (negation_is text (subst IsInner (sym c.sexpr-sexpr.ensures.same) c.sexpr-sexpr.ensures.inner))

pub returns : goal.returns
returns c =
    let text : List Token = c.sexpr-sexpr.result.now in
    c.into_sexpr.ensures
    ∙ closed text c.loop-place.tokens c.push-3.new.self c.loop-place.place (omega (arith, c.loop-place-test.false, c.len-place-end.ensures.len)) c.loop-place.invariant c.in_ok-push-4.ensures.ok
    ∙ ap negation c.sexpr-sexpr.ensures.same
