use Rattle.smt_meaning.specs.Stack.{signature_of}
use Rattle.congruence.specs.Recorded.{IsConflict as IsClash}
use Rattle.closure_log.specs.Seen.{state_of}
use Rattle.closure_log.proofs.Setting.{at_one_level, broken}
use Rattle.closure_log.proofs.told.conflict.Goals as goal

pub returns-in-Some-clause-found : goal.returns-in-Some-clause-found
returns-in-Some-clause-found c =
    let clash : IsClash c.args.told.now.congruence c.in-Some.clause.items = rw c.in-Some.is at c.in_ok-conflict.ensures.some in
    c.lemma_with.ensures.conflict (signature_of c.args.stack.now.frames) (state_of c.args.stack.now c.args.atoms.now.atoms c.args.told.now.log.items)
    (at_one_level c.args.stack.now c.args.atoms.now.atoms c.requires.setting c.flat_says_the_same.ensures c.args.told.now.congruence c.args.told.now.log.items
    c.args.told.now.starts.items c.requires.told)
    (broken c.args.stack.now c.args.atoms.now.atoms c.requires.setting c.clash_is_false_clause.ensures c.args.told.now.congruence c.args.told.now.log.items c.args.told.now.starts.items
    c.in-Some.clause.items c.requires.told clash)
