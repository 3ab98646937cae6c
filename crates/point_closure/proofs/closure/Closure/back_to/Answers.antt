use Rattle.std.proofs.Common.{◌<◌, List, length, take, refl, sym, ◌∙◌, subst, arith}
use Rattle.point_closure.specs.declared.step.Step.{Step}
use Rattle.point_closure.specs.Closure.{Point}
use Rattle.point_closure.specs.Unions.{AreUnions}
use Rattle.point_closure.specs.declared.pending.Mark.{Mark}
use Rattle.point_closure.specs.State.{IsAtRest, cut}
use Rattle.point_closure.specs.Whole.{AreParts, state_of}
use Rattle.point_closure.proofs.BackLemmas.{parts_cut, same_points, unions_take}
use Rattle.point_closure.proofs.closure.Closure.back_to.Goals as goal

pub reset-requires-clause-parts : goal.reset-requires-clause-parts
reset-requires-clause-parts c =
    let s = c.args.self.now in
    let d = c.args.depth in
    let m : Mark = c.index-mark.result.now in
    let w = c.requires.whole in
    let less : d < length s.marks.items = omega (arith, w.parts.marks.count) in
    subst (λ (ps : List Point). AreParts ps c.truncate.new.self.items (cut m (state_of s)) c.truncate-2.new.self.items) (sym (same_points s.graph s.graph c.len-count.result refl c.len-count.ensures.value))
    (subst (λ (l : List Step). AreParts s.graph l (cut m (state_of s)) c.truncate-2.new.self.items) (sym c.truncate.ensures.items)
    (subst (λ (ms : List Mark). AreParts s.graph (take d s.steps.items) (cut m (state_of s)) ms) (sym c.truncate-2.ensures.items)
    (parts_cut s.graph s.steps.items (state_of s) s.marks.items d m less (sym c.index-mark.ensures) w.parts)))

pub reset-requires-clause-rest : goal.reset-requires-clause-rest
reset-requires-clause-rest c =
    let s = c.args.self.now in
    let d = c.args.depth in
    let m : Mark = c.index-mark.result.now in
    let w = c.requires.whole in
    let less : d < length s.marks.items = omega (arith, w.parts.marks.count) in
    subst (λ (ps : List Point). IsAtRest ps c.truncate.new.self.items (cut m (state_of s))) (sym (same_points s.graph s.graph c.len-count.result refl c.len-count.ensures.value))
    (subst (λ (l : List Step). IsAtRest s.graph l (cut m (state_of s))) (sym c.truncate.ensures.items)
    (subst (λ (x : Mark). IsAtRest s.graph (take d s.steps.items) (cut x (state_of s))) (sym c.index-mark.ensures) (w.parts.marks.at d m less).rest))

pub reset-requires-clause-alone : goal.reset-requires-clause-alone
reset-requires-clause-alone c =
    let s = c.args.self.now in
    unions_take c.len-count.result c.index-mark.result.now.unions s.classes.unions
    (subst (λ n. AreUnions n s.classes.unions) (sym c.requires.whole.sized.points ∙ sym c.len-count.ensures.value) c.unions-each.ensures.each)
