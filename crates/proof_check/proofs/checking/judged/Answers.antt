use Rattle.std.proofs.Common.{◌≡◌, ◌∙◌, ◌<◌, ◌++◌, length, map, All, ap, subst, sym}
use Rattle.smt_meaning.specs.Stack.{assertions_of}
use Rattle.smt_meaning.specs.State.{checked_frames}
use Rattle.scope_stack.specs.declared.answers.Assertion.{Assertion}
use Rattle.proof_form.specs.Asserted.{asserted_at}
use Rattle.proof_check.proofs.Judging.{terms_within, terms_at}
use Rattle.proof_check.proofs.checking.judged.Goals as goal

pub judge-requires : goal.judge-requires
judge-requires c =
    let held = c.args.check.now.stack.trees in
    let are : c.deref.result.now ≡ map (λ (a : Assertion). a.term) c.args.check.now.assumptions =
    c.deref.ensures.value ∙ c.in_ok-above.ensures ∙ ap (map (λ (a : Assertion). a.term)) c.as_slice.ensures in
    subst (λ is. All (λ i. i < length held) is) (sym are) (terms_within (length held) c.args.check.now.assumptions c.requires)

pub returns : goal.returns
returns c s h =
    let stack = c.args.check.now.stack in
    let are : c.deref.result.now ≡ map (λ (a : Assertion). a.term) c.args.check.now.assumptions =
    c.deref.ensures.value ∙ c.in_ok-above.ensures ∙ ap (map (λ (a : Assertion). a.term)) c.as_slice.ensures in
    c.judge.ensures (checked_frames s) h.signature
    (h.assertions ∙ ap (λ us. assertions_of stack.frames ++ us) (terms_at stack.trees c.args.check.now.assumptions ∙ ap (asserted_at stack.trees) (sym are)))
