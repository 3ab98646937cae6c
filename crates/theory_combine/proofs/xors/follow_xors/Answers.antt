use Rattle.std.proofs.Common.{List, All, subst}
use Rattle.literals.specs.Signed.{Signed}
use Rattle.congruence.specs.Implied.{IsPressingLemma}
use Rattle.closure_log.specs.Seen.{state_of}
use Rattle.theory_combine.proofs.Answering.{kept_looked}
use Rattle.theory_combine.proofs.xors.follow_xors.Goals as goal

pub returns-in-Ok-clause-found : goal.returns-in-Ok-clause-found
returns-in-Ok-clause-found c = λ b d.
    let s = c.args.stack.now in
    let atoms = c.args.atoms.now.atoms in
    c.inferred.ensures (state_of s atoms c.args.held.now.closure.log.items) b d
    (subst (λ (log : List Signed). All (IsPressingLemma (state_of s atoms log)) c.in-Ok.clauses.items) c.deref-2.ensures.value c.in-Ok.ensures)

pub returns-in-Ok-clause-keeps : goal.returns-in-Ok-clause-keeps
returns-in-Ok-clause-keeps c =
    let held = c.args.held.now in
    kept_looked c.args.stack.now c.args.atoms.now.atoms held (record held.looked { watches = c.follow-found.new.self }) c.requires.held

pub returns-in-Err-clause-keeps : goal.returns-in-Err-clause-keeps
returns-in-Err-clause-keeps c =
    let held = c.args.held.now in
    kept_looked c.args.stack.now c.args.atoms.now.atoms held (record held.looked { watches = c.follow-found.new.self }) c.requires.held
