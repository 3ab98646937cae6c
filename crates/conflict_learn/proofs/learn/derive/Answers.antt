use Rattle.std.proofs.Common.{◌≡◌, ◌<◌, ◌∷◌, ◌∙◌, All, map, ap, length, subst, sym, arith}
use Rattle.clause_store.specs.Each.{EachAfter}
use Rattle.clause_store.specs.TrailInvariant.{IsFresh}
use Rattle.clause_store.specs.Stored.{Stored}
use Rattle.clause_store.specs.Found.{HasKept}
use Rattle.conflict_learn.specs.Analysing.{IsGreatest, Shrinks, falsified, first_depth}
use Rattle.conflict_learn.specs.Learning.{IsLearnt}
use Rattle.conflict_learn.proofs.Concluding.{concluded}
use Rattle.conflict_learn.proofs.Split.{kept_within}
use Rattle.conflict_learn.proofs.learn.derive.Goals as goal

pub write_literals-requires-clause-all_within : goal.write_literals-requires-clause-all_within
write_literals-requires-clause-all_within c =
    let h = c.in_ok-shrink.ensures.shrinks in
    let e : c.deref.result.now ≡ c.shrink.new.kept.items = cc in
    subst (All (λ k. k < length c.shrink.new.store.trail.steps)) (sym e)
    (subst (λ (st : Stored). All (λ k. k < length st.trail.steps) c.shrink.new.kept.items) (sym c.shrink.ensures.same)
    (kept_within c.resolve_deepest.new.store.clauses c.resolve_deepest.new.store.trail.steps c.shrink.new.self _ c.shrink.new.kept.items h.sound h.split))

pub depth_of_first-back_to-requires : goal.depth_of_first-back_to-requires
depth_of_first-back_to-requires c =
    let h = c.in_ok-shrink.ensures.shrinks in
    let e : c.deref-2.result.now ≡ c.shrink.new.kept.items = cc in
    subst (All (λ k. k < length c.shrink.new.store.trail.steps)) (sym e)
    (subst (λ (st : Stored). All (λ k. k < length st.trail.steps) c.shrink.new.kept.items) (sym c.shrink.ensures.same)
    (kept_within c.resolve_deepest.new.store.clauses c.resolve_deepest.new.store.trail.steps c.shrink.new.self _ c.shrink.new.kept.items h.sound h.split))

pub returns-clause-learnt : goal.returns-clause-learnt
returns-clause-learnt c =
    let first = c.resolve_deepest.ensures.same in
    let same : c.shrink.new.store ≡ c.args.store.now = c.shrink.ensures.same ∙ first in
    let d = c.in_ok-top.ensures.comes in
    let fresh : EachAfter IsFresh c.args.store.now.trail.steps = subst (λ (st : Stored). EachAfter IsFresh st.trail.steps) first c.steps-count.ensures.fresh in
    let h : Shrinks c.args.store.now.clauses c.args.store.now.trail.steps c.args.id c.find_uip-uip.result c.resolve_deepest.new.self c.shrink.new.self c.shrink.new.kept.items =
    subst (λ (st : Stored). Shrinks st.clauses st.trail.steps c.args.id c.find_uip-uip.result c.resolve_deepest.new.self c.shrink.new.self c.shrink.new.kept.items) first c.in_ok-shrink.ensures.shrinks in
    let deepest : c.shrink.new.self.deepest ≡ c.args.analysis.now.deepest = h.deepest ∙ d.deepest in
    let greatest : HasKept c.args.store.now.clauses c.args.id (λ ms. IsGreatest c.args.store.now.trail.steps ms c.shrink.new.self.deepest) =
    subst (λ n. HasKept c.args.store.now.clauses c.args.id (λ ms. IsGreatest c.args.store.now.trail.steps ms n)) (sym deepest) c.requires.begun.greatest in
    let kept : c.deref.result.now ≡ c.shrink.new.kept.items = cc in
    let kept' : c.deref-2.result.now ≡ c.shrink.new.kept.items = cc in
    let written : c.write_literals.new.literals.items ≡ map (falsified c.args.store.now.trail.steps) (c.find_uip-uip.result ∷ c.shrink.new.kept.items) =
    subst (λ ks. c.write_literals.new.literals.items ≡ map (falsified c.args.store.now.trail.steps) (c.find_uip-uip.result ∷ ks)) kept
    (subst (λ (st : Stored). c.write_literals.new.literals.items ≡ map (falsified st.trail.steps) (c.find_uip-uip.result ∷ c.deref.result.now)) same c.in_ok-write_literals.ensures) in
    let back : c.depth_of_first-back_to.result ≡ first_depth c.args.store.now.trail.steps c.shrink.new.kept.items =
    subst (λ (st : Stored). c.depth_of_first-back_to.result ≡ first_depth st.trail.steps c.shrink.new.kept.items) same (c.depth_of_first-back_to.ensures ∙ ap (first_depth c.shrink.new.store.trail.steps) kept') in
    subst (λ n. IsLearnt c.args.store.now c.args.id c.shrink.new.self.premises c.write_literals.new.literals.items n c.depth_of_first-back_to.result) (sym c.level-level.ensures)
    (subst (IsLearnt c.args.store.now c.args.id c.shrink.new.self.premises c.write_literals.new.literals.items c.shrink.new.self.level) (sym back)
    (concluded c.args.store.now c.args.id c.find_uip-uip.result c.resolve_deepest.new.self c.shrink.new.self c.shrink.new.kept.items c.write_literals.new.literals.items fresh (omega (arith, deepest, c.requires.deepest)) greatest h written))
