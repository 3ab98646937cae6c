use Rattle.std.proofs.Common.{◌<◌, ◌++◌, ◌∷◌, [], sym, ap, ◌∙◌, arith, take, length, append_assoc}
use Rattle.std.proofs.lemmas.List.{take_more}
use Rattle.smt_meaning.specs.declared.tokens.Token.TheVariants.{Enter}
use Rattle.smt_meaning.specs.Seen.{seen}
use Rattle.goal_search.proofs.text.append.Goals as goal

pub loop-place-preserved : goal.loop-place-preserved
loop-place-preserved c =
    let place = c.loop-place.place in
    let text = c.args.text.now in
    let within : place < length text = omega (arith, c.loop-place-test.true, c.len-place-end.ensures.len) in
    c.in_ok-push.ensures.ok ∙ ap (λ ts. ts ++ seen c.token.result ∷ []) c.loop-place.invariant
    ∙ append_assoc c.args.tokens.now (take place text) (seen c.token.result ∷ [])
    ∙ ap (λ ts. c.args.tokens.now ++ ts) (ap (λ t. take place text ++ t ∷ []) (sym (c.token.ensures.index Enter)) ∙ sym (take_more text place Enter within))
