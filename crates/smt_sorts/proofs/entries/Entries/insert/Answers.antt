use Rattle.std.proofs.Common.{◌≡◌, ◌≤◌, length, None, sym, subst}
use Rattle.smt_sorts.specs.Listed.{Listed, is_named, kind_of, first_that}
use Rattle.smt_sorts.proofs.PairLemmas.{take_before}
use Rattle.smt_sorts.proofs.ListedLemmas.{hashed_before, IsListed-insert}
use Rattle.smt_sorts.proofs.entries.Entries.insert.Goals as goal

pub file-self-inside-requires-clause-hashed : goal.file-self-inside-requires-clause-hashed
file-self-inside-requires-clause-hashed c =
    let within = subst (λ (a : Listed). c.args.place ≤ length a.declarations) (sym c.self.view_is) c.requires.within in
    rw (c.truncate.ensures, c.deref.ensures.value, c.in_ok-insert.ensures.declarations)
    (hashed_before c.self.inside.declarations.items _ c.self.inside.index c.args.place c.self.inside.indexed c.min-indexed.result c.self.invariant.hashed
    (take_before c.self.inside.declarations.items c.args.place c.args.declaration within) c.min-indexed.ensures)

pub invariant_of-self-2 : goal.invariant_of-self-2
invariant_of-self-2 c =
    let within = subst (λ (a : Listed). c.args.place ≤ length a.declarations) (sym c.self.view_is) c.requires.within in
    let new = subst (λ (a : Listed). first_that (is_named (kind_of c.args.declaration.is_sort) c.args.declaration.name) a.declarations ≡ None) (sym c.self.view_is) c.requires.new in
    let few = rw (c.deref.ensures.value, c.in_ok-insert.ensures.declarations) at c.file-self-inside.ensures.within in
    let hashed = rw (c.deref.ensures.value, c.in_ok-insert.ensures.declarations) at c.file-self-inside.ensures.hashed in
    rw (c.in_ok-insert.ensures.declarations, c.in_ok-insert.ensures.levels)
    (IsListed-insert c.self.inside.declarations.items c.self.inside.levels.items c.self.inside.index c.file-self-inside.new.index c.self.inside.indexed c.file-self-inside.result c.args.place c.args.declaration
    c.args.level c.self.invariant within new few hashed)
