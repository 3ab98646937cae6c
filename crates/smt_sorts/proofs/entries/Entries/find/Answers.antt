use Rattle.std.proofs.Common.{take, drop, ap, sym, ◌∙◌}
use Rattle.std.proofs.lemmas.List.{take-append-drop}
use Rattle.term_store.proofs.StoreLemmas.{some_with, none_with}
use Rattle.smt_sorts.specs.Listed.{is_named, first_that}
use Rattle.smt_sorts.proofs.FindLemmas.{first_behind, first_before}
use Rattle.smt_sorts.proofs.entries.Entries.find.Goals as goal

pub returns-in-Some-clause-some : goal.returns-in-Some-clause-some
returns-in-Some-clause-some c =
    let found = rw (c.split_at.ensures.front, c.deref.ensures.value) at c.in-Some.ensures.some in
    rw (← c.self.view_is)
    (ap (first_that (is_named c.args.kind c.args.name.now)) (sym (take-append-drop c.self.inside.indexed c.self.inside.declarations.items))
    ∙ first_before (is_named c.args.kind c.args.name.now) (take c.self.inside.indexed c.self.inside.declarations.items) (drop c.self.inside.indexed c.self.inside.declarations.items) c.in-Some.declaration.now found)

pub returns-in-None-clause-some : goal.returns-in-None-clause-some
returns-in-None-clause-some c =
    let none = rw (c.split_at.ensures.front, c.deref.ensures.value) at c.in-None.ensures.none in
    let found = rw (c.split_at.ensures.back, c.deref.ensures.value) at c.look_through.ensures.some in
    rw (← c.self.view_is)
    (some_with c.look_through.result _ _
    (λ d h. ap (first_that (is_named c.args.kind c.args.name.now)) (sym (take-append-drop c.self.inside.indexed c.self.inside.declarations.items))
    ∙ first_behind (is_named c.args.kind c.args.name.now) (take c.self.inside.indexed c.self.inside.declarations.items) (drop c.self.inside.indexed c.self.inside.declarations.items) none ∙ h)
    found)

pub returns-in-None-clause-none : goal.returns-in-None-clause-none
returns-in-None-clause-none c =
    let none = rw (c.split_at.ensures.front, c.deref.ensures.value) at c.in-None.ensures.none in
    let absent = rw (c.split_at.ensures.back, c.deref.ensures.value) at c.look_through.ensures.none in
    rw (← c.self.view_is)
    (none_with c.look_through.result _ _
    (λ h. ap (first_that (is_named c.args.kind c.args.name.now)) (sym (take-append-drop c.self.inside.indexed c.self.inside.declarations.items))
    ∙ first_behind (is_named c.args.kind c.args.name.now) (take c.self.inside.indexed c.self.inside.declarations.items) (drop c.self.inside.indexed c.self.inside.declarations.items) none ∙ h)
    absent)
