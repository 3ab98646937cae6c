use Rattle.std.proofs.Common.{All, Contains, sym, subst}
use Rattle.std.specs.Prelude.{List}
use Rattle.std.proofs.lemmas.List.Elements.{at_read, Contains-append_right}
use Rattle.smt_meaning.specs.Stack.{signature_of}
use Rattle.search_port.specs.State.{atom_at}
use Rattle.point_closure.specs.declared.step.Step.{Step}
use Rattle.congruence.specs.Justified.{IsJustified}
use Rattle.closure_log.specs.Whole.{SaysLiteral}
use Rattle.closure_log.proofs.WholeSteps.{atom_stays, still_grounded}
use Rattle.closure_log.proofs.whole.record_literal.Goals as goal

pub returns-clause-grounded : goal.returns-clause-grounded
returns-clause-grounded c =
    let s = c.args.stack.now in
    let table = c.args.atoms.now.atoms in
    let l = c.index-log-index.result in
    let justified : All (IsJustified (signature_of s.frames) s.trees table l) c.deref.result.now =
    subst (λ (ss : List Step). All (IsJustified (signature_of s.frames) s.trees table l) ss) (sym c.deref.ensures.value) c.in_ok-say_literal.ensures.said.justified in
    let among : Contains c.args.log.now l = (c.args.index, c.requires.within, sym c.index-log-index.is) in
    still_grounded s table c.args.log.now c.args.congruence.now c.record_all.new.congruence c.requires.grounded
    (c.in_ok-record_all.ensures.reasoned (signature_of s.frames) s.trees table c.args.log.now c.requires.grounded.reasoned among justified) c.in_ok-record_all.ensures.records.graph

pub returns-clause-says : goal.returns-clause-says
returns-clause-says c = λ d.
    let ts = c.args.stack.now.trees in
    let table = c.args.atoms.now.atoms in
    let l = c.index-log-index.result in
    let old : List Step = c.args.congruence.now.closure.steps.items in
    let more : List Step = c.deref.result.now in
    let new : List Step = c.record_all.new.congruence.closure.steps.items in
    let said : SaysLiteral ts table more l = subst (λ (ss : List Step). SaysLiteral ts table ss l) (sym c.deref.ensures.value) c.in_ok-say_literal.ensures.whole in
    at_read c.args.log.now (SaysLiteral ts table new) c.args.index l c.requires.within c.index-log-index.is
    (atom_stays ts more new (λ s k. subst (λ (ss : List Step). Contains ss s) (sym c.in_ok-record_all.ensures.records.ok) (Contains-append_right old more s k)) l.positive (atom_at table l.atom) said) d
