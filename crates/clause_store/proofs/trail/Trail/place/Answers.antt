use Rattle.std.proofs.Common.{◌≡◌, ◌<◌, ◌∙◌, length, get_or, subst, sym, arith}
use Rattle.std.proofs.lemmas.List.{get_or_default}
use Rattle.clause_store.specs.Trail.{Assigns, Step}
use Rattle.clause_store.proofs.TrailLemmas.{stands_at, StandsAt}
use Rattle.clause_store.proofs.trail.Trail.place.Goals as goal

pub returns-clause-within : goal.returns-clause-within
returns-clause-within c =
    let i = c.self.inside in
    let known : c.args.literal.atom < length i.marks.items = rw (← c.self.view_is) at c.requires.known in
    let on : Assigns i.steps.items c.args.literal = rw (← c.self.view_is) at c.requires.assigned in
    let at : StandsAt i.steps.items (get_or i.places.items c.args.literal.atom 0) c.args.literal = stands_at i.steps.items i.places.items (length i.marks.items) c.args.literal c.self.invariant.3 on in
    let e : c.index.result.now ≡ get_or i.places.items c.args.literal.atom 0 = rw c.atom.ensures at c.index.ensures ∙ get_or_default i.places.items c.args.literal.atom c.index.result.now 0 (omega (arith, c.self.invariant.3.count)) in
    rw (← c.self.view_is) (subst (λ n. n < length i.steps.items) (sym e) at.within)

pub returns-clause-literal : goal.returns-clause-literal
returns-clause-literal c =
    let i = c.self.inside in
    let known : c.args.literal.atom < length i.marks.items = rw (← c.self.view_is) at c.requires.known in
    let on : Assigns i.steps.items c.args.literal = rw (← c.self.view_is) at c.requires.assigned in
    let at : StandsAt i.steps.items (get_or i.places.items c.args.literal.atom 0) c.args.literal = stands_at i.steps.items i.places.items (length i.marks.items) c.args.literal c.self.invariant.3 on in
    let e : c.index.result.now ≡ get_or i.places.items c.args.literal.atom 0 = rw c.atom.ensures at c.index.ensures ∙ get_or_default i.places.items c.args.literal.atom c.index.result.now 0 (omega (arith, c.self.invariant.3.count)) in
    rw (← c.self.view_is) (subst (λ n. (d : Step) → (get_or i.steps.items n d).literal ≡ c.args.literal) (sym e) at.literal)
