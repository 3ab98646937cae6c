use Rattle.std.proofs.Common.{◌≡◌, ◌<◌, length, get_or, subst, sym}
use Rattle.clause_store.specs.Trail.{MarkOf}
use Rattle.clause_store.proofs.trail.Trail.is_true.Goals as goal

pub returns-clause-yes : goal.returns-clause-yes
returns-clause-yes c = λ e.
    let i = c.self.inside in
    let known : c.args.literal.atom < length i.marks.items = rw (← c.self.view_is) at c.requires in
    let m = c.index.result.now in
    let is : m ≡ get_or i.marks.items c.args.literal.atom m = rw c.atom.ensures at c.index.ensures in
    rw (← c.self.view_is) (c.has_mark.ensures.yes e i.steps.items (subst (MarkOf i.steps.items c.args.literal.atom) (sym is) (c.self.invariant.0.agree c.args.literal.atom m known)))

pub returns-clause-no : goal.returns-clause-no
returns-clause-no c = λ e on.
    let i = c.self.inside in
    let known : c.args.literal.atom < length i.marks.items = rw (← c.self.view_is) at c.requires in
    let m = c.index.result.now in
    let is : m ≡ get_or i.marks.items c.args.literal.atom m = rw c.atom.ensures at c.index.ensures in
    c.has_mark.ensures.no e i.steps.items (subst (MarkOf i.steps.items c.args.literal.atom) (sym is) (c.self.invariant.0.agree c.args.literal.atom m known)) (rw (← c.self.view_is) at on)
