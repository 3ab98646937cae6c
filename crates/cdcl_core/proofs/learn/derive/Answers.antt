use Rattle.std.proofs.Common.{◌≡◌, [], List, subst, sym, ◌∙◌}
use Rattle.literals.specs.Signed.{Signed}
use Rattle.conflict_learn.specs.Learning.{IsLearnt, LearntBy}
use Rattle.conflict_learn.specs.declared.learn.Learnt.{Learnt}
use Rattle.cdcl_core.proofs.Asserting.{learnt-from, true-by}
use Rattle.cdcl_core.proofs.learn.derive.Goals as goal

pub returns-in-Empty-clause-learnt : goal.returns-in-Empty-clause-learnt
returns-in-Empty-clause-learnt c =
    let h = subst (λ (x : Learnt). LearntBy c.args.store.now c.args.id c.learn.new.self x) c.in-Empty.is c.in_ok-level.ensures.learnt in
    true-by c.args.store.now.clauses c.learn.new.self.premises c.in-Empty.level [] h.0

pub returns-in_ok-literals-in-Clause-clause-learnt : goal.returns-in_ok-literals-in-Clause-clause-learnt
returns-in_ok-literals-in-Clause-clause-learnt c =
    let h = subst (λ (x : Learnt). LearntBy c.args.store.now c.args.id c.learn.new.self x) c.in-Clause.is c.in_ok-level.ensures.learnt in
    let copied : c.in_ok-literals-in-Clause.literals.items ≡ c.literals.result.now = c.in_ok-literals-in-Clause.ensures.items_if_clones_equal (λ x y e. e) in
    let same : c.learn.new.self.literals ≡ c.from_vec.result = sym c.literals.ensures ∙ (sym copied ∙ sym c.from_vec.ensures) in
    let k : IsLearnt c.args.store.now c.args.id c.learn.new.self.premises c.from_vec.result c.in-Clause.level c.in-Clause.back_to =
    subst (λ (xs : List Signed). IsLearnt c.args.store.now c.args.id c.learn.new.self.premises xs c.in-Clause.level c.in-Clause.back_to) same h in
    learnt-from c.args.store.now c.args.id c.learn.new.self.premises (record { literals = c.from_vec.result; level = c.in-Clause.level }) c.in-Clause.back_to c.steps-steps.ensures.fresh c.requires.searched k
