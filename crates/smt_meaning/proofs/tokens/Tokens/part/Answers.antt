use Rattle.std.proofs.Common.{◌≡◌, ◌++◌, ◌∷◌, [], sym, ap, ◌∙◌, arith, slice_range}
use Rattle.std.proofs.lemmas.List.Edits.{between_none, between_more}
use Rattle.smt_meaning.specs.declared.tokens.Token.TheVariants.{Enter}
use Rattle.smt_meaning.specs.Seen.{seen}
use Rattle.smt_meaning.proofs.tokens.Tokens.part.Goals as goal

pub loop-place-init : goal.loop-place-init
loop-place-init c = c.in_ok-part.ensures ∙ sym (between_none c.args.self.now c.args.from)

pub loop-place-preserved : goal.loop-place-preserved
loop-place-preserved c =
    let place = c.loop-place.place in
    c.in_ok-push.ensures.ok ∙ ap (λ x. x ++ seen c.token.result ∷ []) c.loop-place.invariant
    ∙ ap (λ x. slice_range c.args.self.now c.args.from place ++ x ∷ []) (sym (c.token.ensures.index Enter))
    ∙ sym (between_more c.args.self.now c.args.from place Enter (omega (arith, c.loop-place.auto.place)) (omega (arith, c.loop-place-test.true, c.requires.within)))

pub returns : goal.returns
returns c =
    let end : c.loop-place.place ≡ c.args.to = omega (arith, c.loop-place-test.false, c.loop-place.auto.place-end c.requires.order) in
    c.loop-place.invariant ∙ ap (λ x. slice_range c.args.self.now c.args.from x) end
