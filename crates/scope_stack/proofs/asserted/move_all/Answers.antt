use Rattle.std.proofs.Common.{◌∙◌, ◌≡◌, ◌<◌, length, arith, sym, ap, take, ◌++◌, ◌∷◌, [], ◌+◌}
use Rattle.std.proofs.lemmas.List.{take_more}
use Rattle.std.proofs.lemmas.List.Elements.{All-push}
use Rattle.smt_meaning.specs.Term.{tree_at}
use Rattle.scope_stack.specs.declared.answers.Assertion.{Assertion}
use Rattle.scope_stack.specs.Inside.{IsWithin}
use Rattle.scope_stack.proofs.CopyLemmas.{moved_next}
use Rattle.scope_stack.proofs.asserted.move_all.Goals as goal

pub loop-assertion-preserved : goal.loop-assertion-preserved
loop-assertion-preserved c =
    let old = c.assertion-item.result in
    let place = c.in-Some.place in
    let on : take (c.loop-assertion.assertion-index + 1) c.args.assertions.now ≡ take c.loop-assertion.assertion-index c.args.assertions.now ++ old ∷ [] =
    take_more c.args.assertions.now c.loop-assertion.assertion-index old c.loop-assertion-test.true ∙ ap (λ (a : Assertion). take c.loop-assertion.assertion-index c.args.assertions.now ++ a ∷ []) (sym c.assertion-item.is) in
    let below : place < length c.args.copies.now.trees = omega (arith, c.if-place-len.false, c.len.ensures.value) in
    rw (c.in_ok-push.ensures.items, on) (
      moved_next c.args.terms.now.trees c.args.copies.now.trees (take c.loop-assertion.assertion-index c.args.assertions.now) c.loop-assertion.moved.items old _ c.loop-assertion.invariant.0 c.in_ok-text.ensures
          (c.requires.copies.copies place below ∙ ap (tree_at c.args.terms.now.trees) c.in-Some.ensures.member),
      All-push (IsWithin c.args.copies.now.trees) c.loop-assertion.moved.items _ c.loop-assertion.invariant.1 below,
    )
