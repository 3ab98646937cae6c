use Rattle.std.proofs.Common.{rules, ◌≡◌, List, All, sym, subst}
use Rattle.std.specs.Prelude.{Contains}
use Rattle.literals.specs.Signed.{Signed}
use Rattle.search_port.specs.State.{IsOpenIn}
use Rattle.theory_combine.proofs.Cycling.{ok_some, implied_met}
use Rattle.theory_combine.proofs.cycles.shown.Goals as goal

pub returns-in-Some-2 : goal.returns-in-Some-2
returns-in-Some-2 c =
    let held = c.args.held.now in
    let there : All (Contains c.deref-3.result.now) c.in-Some-2.reasons.items = rw c.in-Some-2.is at c.in_ok-reasons.ensures in
    let told : All (Contains held.closure.log.items) c.in-Some-2.reasons.items = subst (λ (log : List Signed). All (Contains log) c.in-Some-2.reasons.items) c.deref-3.ensures.value there in
    let all : All (Contains held.closure.log.items) c.deref-in-Some-2.result.now = subst (λ (ls : List Signed). All (Contains held.closure.log.items) ls) (sym c.deref-in-Some-2.ensures.value) told in
    let same : c.in-Some.literal.atom ≡ c.atom.result = search rules in
    let open_there : IsOpenIn held.closure.log.items c.in-Some.literal =
    subst (λ (log : List Signed). IsOpenIn log c.in-Some.literal) c.deref-2.ensures.value (c.is_open.ensures c.if-not-is_open.false c.in-Some.literal same) in
    ok_some c.implied.result
    (λ clause i. implied_met c.flat_says_the_same.ensures c.args.stack.now c.args.atoms.now.atoms held c.in-Some.literal c.deref-in-Some-2.result.now clause c.requires.setting c.requires.held c.in-Some.ensures open_there all i)
    c.implied.ensures
