use Rattle.std.proofs.Common.{rules, true, ◌<◌, ◌≤◌, All, length, take, subst}
use Rattle.std.specs.Prelude.{List}
use Rattle.std.proofs.lemmas.List.{take_all}
use Rattle.std.proofs.lemmas.List.Elements.{All-more}
use Rattle.literals.specs.Signed.{Signed}
use Rattle.point_closure.specs.declared.step.Step.{Step}
use Rattle.closure_log.specs.Whole.{SaysLiteral}
use Rattle.closure_log.proofs.WholeSteps.{literals_stay}
use Rattle.closure_log.proofs.whole.record_literals.Goals as goal

pub loop-index-preserved : goal.loop-index-preserved
loop-index-preserved c =
    let ts = c.args.stack.now.trees in
    let table = c.args.atoms.now.atoms in
    let log : List Signed = c.args.log.now in
    let k = c.loop-index.index in
    let old : List Step = c.loop-index.congruence.closure.steps.items in
    let new : List Step = c.record_literal.new.congruence.closure.steps.items in
    let less : k < length log = search rules in
    let first : Signed = record { atom = 0; positive = true } in (
      c.in_ok-record_literal.ensures.grounded,
      All-more (SaysLiteral ts table new) log k first less (literals_stay ts table old new (take k log) c.in_ok-record_literal.ensures.keeps c.loop-index.invariant.1) (c.in_ok-record_literal.ensures.says first),
    )

pub returns-clause-says : goal.returns-clause-says
returns-clause-says c =
    let ts = c.args.stack.now.trees in
    let table = c.args.atoms.now.atoms in
    let log : List Signed = c.args.log.now in
    let last : length log ≤ c.loop-index.index = search rules in
    subst (λ (ls : List Signed). All (SaysLiteral ts table c.loop-index.congruence.closure.steps.items) ls) (take_all c.loop-index.index log last) c.loop-index.invariant.1
