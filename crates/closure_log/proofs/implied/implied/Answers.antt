use Rattle.std.proofs.Common.{List, sym, subst}
use Rattle.literals.specs.Signed.{Signed, opposite}
use Rattle.smt_meaning.specs.Stack.{signature_of}
use Rattle.point_closure.specs.declared.step.Step.{Step}
use Rattle.congruence.specs.Implied.{Presses}
use Rattle.closure_log.specs.Said.{AreSaid}
use Rattle.closure_log.proofs.PressingLemmas.{presses_here}
use Rattle.closure_log.proofs.implied.implied.Goals as goal

pub returns-in-Some : goal.returns-in-Some
returns-in-Some c =
    let presses : Presses c.args.told.now.congruence c.args.literal c.deref.result.now c.in-Some.clause = rw c.in-Some.is at c.in_ok-implied_clause.ensures.presses in
    let said : AreSaid (signature_of c.args.stack.now.frames) c.args.stack.now.trees c.args.atoms.now.atoms (opposite c.args.literal) c.deref.result.now =
    subst (λ (ss : List Step). AreSaid (signature_of c.args.stack.now.frames) c.args.stack.now.trees c.args.atoms.now.atoms (opposite c.args.literal) ss) (sym c.deref.ensures.value)
    (subst (λ (l : Signed). AreSaid (signature_of c.args.stack.now.frames) c.args.stack.now.trees c.args.atoms.now.atoms l c.say.new.steps.items) c.negated-negation.ensures c.in_ok-say.ensures) in
    presses_here c.flat_says_the_same.ensures c.args.stack.now c.args.atoms.now.atoms c.requires.setting c.args.told.now.congruence c.args.told.now.log.items
    c.args.told.now.starts.items c.args.literal c.deref.result.now c.in-Some.clause c.requires.told c.requires.numbered c.requires.is_open said presses
