use Rattle.std.proofs.Common.{rules, ◌≡◌, ◌≤◌, length, ap, ◌∙◌, arith}
use Rattle.std.specs.Prelude.{List}
use Rattle.literals.specs.Signed.{Signed}
use Rattle.smt_meaning.specs.Term.{Tree}
use Rattle.point_closure.specs.declared.step.Step.{Step}
use Rattle.closure_log.proofs.WholeSteps.{literals_stay, choices_more}
use Rattle.closure_log.proofs.whole.record_choices.Goals as goal

pub loop-place-preserved : goal.loop-place-preserved
loop-place-preserved c =
    let ts = c.args.stack.now.trees in
    let table = c.args.atoms.now.atoms in
    let log : List Signed = c.args.log.now in
    let old : List Step = c.loop-place.congruence.closure.steps.items in
    let new : List Step = c.record_choice.new.congruence.closure.steps.items in (
      c.in_ok-record_choice.ensures.grounded,
      literals_stay ts table old new log c.in_ok-record_choice.ensures.keeps c.loop-place.invariant.1,
      choices_more ts table log old new c.loop-place.place c.in_ok-record_choice.ensures.keeps c.loop-place.invariant.2 c.in_ok-record_choice.ensures.says,
    )

pub returns-clause-all : goal.returns-clause-all
returns-clause-all c =
    let count : c.len-place-end.result ≡ length c.args.stack.now.trees = c.len-place-end.ensures.value ∙ ap (λ (us : List Tree). length us) c.terms.ensures.trees in
    let last : c.len-place-end.result ≤ c.loop-place.place = search rules in
    record { literals = c.loop-place.invariant.1; choices = λ p less. c.loop-place.invariant.2 p (omega arith) }
