use Rattle.std.proofs.Common.{◌≤◌, arith, length, subst, sym, Contains}
use Rattle.search_port.specs.State.{TheoryState}
use Rattle.theory_combine.proofs.Numbers.{beyond}
use Rattle.theory_combine.proofs.theory.CombinedNamed.number.Goals as goal

pub returns-else-number-atoms-clause-none : goal.returns-else-number-atoms-clause-none
returns-else-number-atoms-clause-none c =
    let w = c.self.inside.progress in
    let Past : TheoryState → Type 0 = λ s. length s.reading.table ≤ c.in_ok-number.number in
    let none : Past c.args.self.now = let count = c.atoms.ensures.atoms in let not_below = c.if-number-atoms.false in omega arith in
    let past = subst Past (sym c.self.view_is) none in
    subst (λ (s : TheoryState). Contains s.reading.table c.args.atom.now → ⊥) c.self.view_is
    (beyond w.stopped_at w.atoms.atoms c.in_ok-number.number c.args.atom.now c.are_apart.ensures c.in_ok-number.ensures.some past)
