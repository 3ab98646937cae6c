use Rattle.std.proofs.Common.{rules, ◌≡◌, ◌<◌, true, false, length}
use Rattle.smt_meaning.specs.declared.terms.Operator.TheVariants.{Distinct}
use Rattle.smt_meaning.specs.declared.terms.Head.TheVariants.{Theory}
use Rattle.smt_meaning.specs.Atoms.{most_compared}
use Rattle.check_atoms.proofs.AssertedTerms.{are_of_stack, are_listed}
use Rattle.check_atoms.proofs.asserted.is_asserted_distinct.Goals as goal

pub returns-then-not-are_no_bools-clause-no : goal.returns-then-not-are_no_bools-clause-no
returns-then-not-are_no_bools-clause-no c = λ e h.
    let none : c.are_no_bools.result ≡ false = search rules in
    c.are_no_bools.ensures.no none (are_listed c.args.stack.now c.args.sorts.now c.args.arguments.now c.requires.sorted h.no_bools)

pub returns-clause-yes : goal.returns-clause-yes
returns-clause-yes c = λ e.
    let all : c.are_no_bools.result ≡ true = search rules in
    let distinct : c.args.head ≡ Theory Distinct = search rules in
    let wide : most_compared < length c.args.arguments.now = search rules in
    record {
      operator = distinct;
      wide = wide;
      no_bools = are_of_stack c.args.stack.now c.args.sorts.now c.args.arguments.now c.requires.sorted (c.are_no_bools.ensures.yes all);
      asserted = c.is_asserted.ensures.yes e;
    }

pub returns-clause-no : goal.returns-clause-no
returns-clause-no c = λ e h. c.is_asserted.ensures.no e h.asserted
