use Rattle.std.proofs.Common.{◌≤◌, length, arith, sym, subst}
use Rattle.smt_sorts.specs.Listed.{Listed}
use Rattle.smt_sorts.proofs.PairLemmas.{take_without}
use Rattle.smt_sorts.proofs.ListedLemmas.{hashed_before, IsListed-without}
use Rattle.smt_sorts.proofs.entries.Entries.remove.Goals as goal

pub file-self-inside-requires-clause-hashed : goal.file-self-inside-requires-clause-hashed
file-self-inside-requires-clause-hashed c =
    let within = subst (λ (a : Listed). c.args.to ≤ length a.declarations) (sym c.self.view_is) c.requires.within in
    let order = c.requires.order in
    rw (c.truncate.ensures, c.deref.ensures.value, c.remove.ensures)
    (hashed_before c.self.inside.declarations.items _ c.self.inside.index c.args.from c.self.inside.indexed c.min-indexed.result c.self.invariant.hashed
    (take_without c.self.inside.declarations.items c.args.from c.args.to (omega (arith, within, order))) c.min-indexed.ensures)

pub invariant_of-self : goal.invariant_of-self
invariant_of-self c =
    let within = subst (λ (a : Listed). c.args.to ≤ length a.declarations) (sym c.self.view_is) c.requires.within in
    let few = rw (c.deref.ensures.value, c.remove.ensures) at c.file-self-inside.ensures.within in
    let hashed = rw (c.deref.ensures.value, c.remove.ensures) at c.file-self-inside.ensures.hashed in
    rw (c.remove.ensures, c.remove-then-from-to.ensures)
    (IsListed-without c.self.inside.declarations.items c.self.inside.levels.items c.self.inside.index c.file-self-inside.new.index c.self.inside.indexed c.file-self-inside.result c.args.from c.args.to
    c.self.invariant c.requires.order within few hashed)
