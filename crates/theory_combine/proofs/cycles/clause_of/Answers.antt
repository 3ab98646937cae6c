use Rattle.std.proofs.Common.{List, All, sym, subst}
use Rattle.std.specs.Prelude.{Contains}
use Rattle.literals.specs.Signed.{Signed}
use Rattle.theory_combine.proofs.Cycling.{ok_some, broken_met}
use Rattle.theory_combine.proofs.cycles.clause_of.Goals as goal

pub returns-in-Some : goal.returns-in-Some
returns-in-Some c =
    let held = c.args.held.now in
    let there : All (Contains c.deref.result.now) c.in-Some.literals.items = rw c.in-Some.is at c.in_ok-literals.ensures in
    let told : All (Contains held.closure.log.items) c.in-Some.literals.items = subst (λ (log : List Signed). All (Contains log) c.in-Some.literals.items) c.deref.ensures.value there in
    let all : All (Contains held.closure.log.items) c.deref-in-Some.result.now = subst (λ (ls : List Signed). All (Contains held.closure.log.items) ls) (sym c.deref-in-Some.ensures.value) told in
    ok_some c.broken.result
    (λ clause i. broken_met c.flat_says_the_same.ensures c.args.stack.now c.args.atoms.now.atoms held c.deref-in-Some.result.now clause c.requires.setting c.requires.held all i)
    c.broken.ensures
