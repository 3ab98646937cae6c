use Rattle.std.proofs.Common.{◌≡◌, ◌∷◌, [], List, length, take, sym, ap, ◌∙◌, subst, arith}
use Rattle.std.proofs.lemmas.List.{take_at, length_push}
use Rattle.point_closure.specs.declared.classes.Union.{Union}
use Rattle.point_closure.specs.Closure.{Point}
use Rattle.point_closure.specs.Unions.{AreUnions}
use Rattle.point_closure.specs.State.{Grows}
use Rattle.point_closure.specs.Whole.{state_of}
use Rattle.point_closure.proofs.StateLemmas.{grows_more}
use Rattle.point_closure.proofs.BackLemmas.{parts_back, rest_back, unions_back}
use Rattle.point_closure.proofs.closure.Closure.add.Goals as goal

pub reset-requires-clause-within : goal.reset-requires-clause-within
reset-requires-clause-within c =
    let s = c.args.self.now in
    let p : Point = record { shape = c.args.shape; arguments = c.args.arguments.now } in
    let e = c.settle.ensures.keeps.graph ∙ c.in_ok-add_waiting.ensures.ok in
    omega (arith, ap length e, length_push s.graph p)

pub reset-requires-clause-parts : goal.reset-requires-clause-parts
reset-requires-clause-parts c =
    let s = c.args.self.now in
    let a = c.add_waiting.new.self in
    let b = c.settle.new.self in
    let p : Point = record { shape = c.args.shape; arguments = c.args.arguments.now } in
    let k = c.settle.ensures.keeps in
    let graph : take c.len-count.result b.graph ≡ s.graph = ap (take c.len-count.result) (k.graph ∙ c.in_ok-add_waiting.ensures.ok) ∙ take_at s.graph (p ∷ []) c.len-count.result (sym c.len-count.ensures.value) in
    let grows : Grows (state_of s) (state_of b) = grows_more (state_of s) (state_of a) (state_of b) c.add_waiting.ensures.grows k.grows in
    parts_back s.graph b.graph s.steps.items b.steps.items (state_of s) (state_of b) s.marks.items b.marks.items c.mark-mark.result c.len-count.result graph (k.steps ∙ c.add_waiting.ensures.steps) (k.marks ∙ c.add_waiting.ensures.marks)
    c.mark-mark.ensures grows c.requires.whole.closure.parts

pub reset-requires-clause-rest : goal.reset-requires-clause-rest
reset-requires-clause-rest c =
    let s = c.args.self.now in
    let a = c.add_waiting.new.self in
    let b = c.settle.new.self in
    let p : Point = record { shape = c.args.shape; arguments = c.args.arguments.now } in
    let k = c.settle.ensures.keeps in
    let graph : take c.len-count.result b.graph ≡ s.graph = ap (take c.len-count.result) (k.graph ∙ c.in_ok-add_waiting.ensures.ok) ∙ take_at s.graph (p ∷ []) c.len-count.result (sym c.len-count.ensures.value) in
    let grows : Grows (state_of s) (state_of b) = grows_more (state_of s) (state_of a) (state_of b) c.add_waiting.ensures.grows k.grows in
    rest_back s.graph b.graph s.steps.items b.steps.items (state_of s) (state_of b) c.mark-mark.result c.len-count.result graph (k.steps ∙ c.add_waiting.ensures.steps) c.mark-mark.ensures grows c.requires.whole.rest

pub reset-requires-clause-alone : goal.reset-requires-clause-alone
reset-requires-clause-alone c =
    let s = c.args.self.now in
    let a = c.add_waiting.new.self in
    let b = c.settle.new.self in
    let grows : Grows (state_of s) (state_of b) = grows_more (state_of s) (state_of a) (state_of b) c.add_waiting.ensures.grows c.settle.ensures.keeps.grows in
    subst (λ (us : List Union). AreUnions c.len-count.result us) (sym (unions_back c.mark-mark.result (state_of s) (state_of b) c.mark-mark.ensures grows))
    (subst (λ n. AreUnions n s.classes.unions) (sym c.requires.whole.closure.sized.points ∙ sym c.len-count.ensures.value) c.unions-each.ensures.each)
