use Rattle.std.proofs.Common.{Contains}
use Rattle.smt_meaning.specs.declared.clauses.Atom.TheVariants.{Truth}
use Rattle.smt_meaning.specs.Term.{tree_at}
use Rattle.smt_meaning.specs.Stack.{assertions_of}
use Rattle.scope_stack.specs.declared.answers.Assertion.{Assertion}
use Rattle.first_clauses.specs.PartClausesFirst.{IsAsserted}
use Rattle.first_clauses.proofs.PartClausesKeeping.{at_item, all_of_take, assertions_more}
use Rattle.first_clauses.proofs.clauses.keep_assertions.Goals as goal

pub keep_assertion-requires-clause-numbered : goal.keep_assertion-requires-clause-numbered
keep_assertion-requires-clause-numbered c =
    at_item (λ (a : Assertion). Contains c.args.atoms.now.atoms (Truth a.term)) c.args.assertions.now c.loop-assertion.assertion-index c.assertion-item.result c.loop-assertion-test.true c.assertion-item.is c.requires.numbered

pub keep_assertion-requires-clause-asserted : goal.keep_assertion-requires-clause-asserted
keep_assertion-requires-clause-asserted c =
    at_item (λ (a : Assertion). Contains (assertions_of c.args.stack.now.frames) (tree_at c.args.stack.now.trees a.term)) c.args.assertions.now c.loop-assertion.assertion-index c.assertion-item.result
    c.loop-assertion-test.true c.assertion-item.is c.requires.asserted

pub loop-assertion-preserved : goal.loop-assertion-preserved
loop-assertion-preserved c = record {
  begun = c.in_ok-keep_assertion.ensures.begun;
  stay = λ k among. c.keep_assertion.ensures.stay k (c.loop-assertion.invariant.stay k among);
  has = assertions_more c.args.stack.now.trees c.args.atoms.now.atoms c.loop-assertion.store.clauses c.keep_assertion.new.store.clauses c.args.assertions.now c.loop-assertion.assertion-index c.assertion-item.result
      c.loop-assertion-test.true c.assertion-item.is c.keep_assertion.ensures.stay c.loop-assertion.invariant.has c.in_ok-keep_assertion.ensures.has;
}

pub returns-clause-has : goal.returns-clause-has
returns-clause-has c =
    all_of_take (λ (a : Assertion). IsAsserted c.args.stack.now.trees c.args.atoms.now.atoms c.loop-assertion.store.clauses (tree_at c.args.stack.now.trees a.term)) c.args.assertions.now c.loop-assertion.assertion-index
    c.loop-assertion-test.false c.loop-assertion.invariant.has
