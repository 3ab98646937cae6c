use Rattle.smt_meaning.specs.Stack.{signature_of}
use Rattle.congruence.specs.Recorded.{IsConsistent, IsConflict as IsClash}
use Rattle.closure_log.specs.Seen.{state_of}
use Rattle.closure_log.proofs.Wholeness.{keeps_apart, told_at_one_level, clash_is_false}
use Rattle.closure_log.proofs.whole.broken_by.Goals as goal

pub returns-in-None-clause-found : goal.returns-in-None-clause-found
returns-in-None-clause-found c =
    let consistent : IsConsistent c.args.congruence.now.closure.graph c.args.congruence.now.closure.steps.items = rw c.in-None.is at c.in_ok-conflict.ensures.none in
    keeps_apart c.args.stack.now.trees c.args.atoms.now.atoms c.args.log.now c.args.congruence.now c.requires.all consistent

pub returns-clause-found : goal.returns-clause-found
returns-clause-found c =
    let s = c.args.stack.now in
    let table = c.args.atoms.now.atoms in
    let log = c.args.log.now in
    let clash : IsClash c.args.congruence.now c.in-Some.clause.items = rw c.in-Some.is at c.in_ok-conflict.ensures.some in
    c.lemma_with.ensures.conflict (signature_of s.frames) (state_of s table log)
    (told_at_one_level s table log c.args.places.now c.requires.setting c.requires.log c.flat_says_the_same.ensures)
    (clash_is_false s table log c.args.places.now c.requires.setting c.requires.log c.clash_is_false_clause.ensures c.args.congruence.now c.in-Some.clause.items c.requires.grounded clash)
