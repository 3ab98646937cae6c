use Rattle.std.proofs.Common.{◌≡◌, ◌+◌, sym, subst}
use Rattle.model_build.specs.Given.{given_at, IsClash}
use Rattle.model_build.specs.Keys.{AreFirst}
use Rattle.model_build.proofs.Kept.{first_skip, first_same, first_push, clash_here, compared}
use Rattle.model_build.proofs.firsts.note.Goals as goal

pub returns-in-None-clause-found : goal.returns-in-None-clause-found
returns-in-None-clause-found c = first_skip c.args.store.now.trees c.args.given.now c.args.place c.args.firsts.now.places.items c.requires.first c.in-None.ensures.none

pub returns-in-Some-find-clause-found : goal.returns-in-Some-find-clause-found
returns-in-Some-find-clause-found c =
    let ts = c.args.store.now.trees in
    let gs = c.args.given.now in
    let ps = c.args.firsts.now.places.items in
    compared c.differing.result c.in-Some-find.other (given_at gs c.in-Some-find.other ≡ given_at gs c.args.place) (AreFirst ts gs (c.args.place + 1) ps) (λ q. IsClash ts gs q c.args.place)
    c.differing.ensures.none c.differing.ensures.some
    (first_same ts gs c.args.place ps c.in-Some-find.other c.in-Some.application.symbol c.in-Some.application.arguments.now c.requires.first c.in-Some.ensures.some
    c.in-Some-find.ensures.some.0 c.in-Some-find.ensures.some.1)
    (clash_here ts gs c.args.place ps c.in-Some-find.other c.in-Some.application.symbol c.in-Some.application.arguments.now c.requires.first c.in-Some.ensures.some
    c.in-Some-find.ensures.some.0 c.in-Some-find.ensures.some.1)

pub returns-in_ok-push-in-None-find-clause-found : goal.returns-in_ok-push-in-None-find-clause-found
returns-in_ok-push-in-None-find-clause-found c =
    subst (λ xs. AreFirst c.args.store.now.trees c.args.given.now (c.args.place + 1) xs) (sym c.in_ok-push-in-None-find.ensures.places)
    (first_push c.args.store.now.trees c.args.given.now c.args.place c.args.firsts.now.places.items c.in-Some.application.symbol c.in-Some.application.arguments.now c.requires.first
    c.in-Some.ensures.some c.in-None-find.ensures.none)
