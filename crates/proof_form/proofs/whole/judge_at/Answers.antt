use Rattle.std.proofs.Common.{◌≡◌, length, arith}
use Rattle.std.proofs.lemmas.List.{length-map}
use Rattle.smt_meaning.specs.Term.{tree_at}
use Rattle.proof_form.specs.Asserted.{asserted_at}
use Rattle.proof_form.proofs.Going.{good_step, wrong_step}
use Rattle.proof_form.proofs.whole.judge_at.Goals as goal

pub returns-in-Step-clause-comes : goal.returns-in-Step-clause-comes
returns-in-Step-clause-comes c = λ x rest here.
    good_step c.args.terms.now (asserted_at c.args.terms.now.held c.args.asserted.now) c.args.clauses.now c.judge_step.new.clauses x c.in-Step.step c.judge_step.result
    (rw c.in-Step.is at (c.in_ok-step.ensures x rest here)).0 c.judge_step.ensures.comes

pub returns-in-Wrong-clause-comes : goal.returns-in-Wrong-clause-comes
returns-in-Wrong-clause-comes c = λ x rest here.
    let size : length (asserted_at c.args.terms.now.held c.args.asserted.now) ≡ length c.args.asserted.now = length-map c.args.asserted.now (tree_at c.args.terms.now.held) in
    wrong_step c.args.terms.now (asserted_at c.args.terms.now.held c.args.asserted.now) c.args.clauses.now c.args.clauses.now x (rw c.in-Wrong.is at (c.in_ok-step.ensures x rest here))
    (omega (arith, c.len-few.ensures.few, c.len-few.ensures.trees)) c.len-few.ensures.trees
    (omega (arith, size, c.count_of-asserted.ensures, c.count_of-asserted.type_inv)) (omega (arith, c.len-apart.ensures.count, c.len-apart.type_inv))
