use Rattle.std.proofs.Common.{◌<◌, ◌∙◌, ℕ, List, length, All, sym, ap, subst}
use Rattle.proof_form.specs.Asserted.{asserted_at}
use Rattle.proof_form.proofs.whole.judge_parts.Goals as goal

pub judge_beside-requires-clause-asserted : goal.judge_beside-requires-clause-asserted
judge_beside-requires-clause-asserted c = subst (λ (is : List ℕ). All (λ i. i < length c.args.stack.now.trees) is) (sym c.deref.ensures.value) c.in_ok-asserted.ensures.within

pub returns : goal.returns
returns c = λ frames same asserted.
    c.judge_beside.ensures frames same (asserted ∙ sym (ap (asserted_at c.args.stack.now.trees) c.deref.ensures.value ∙ c.in_ok-asserted.ensures.places))
