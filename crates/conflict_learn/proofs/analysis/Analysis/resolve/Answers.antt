use Rattle.std.proofs.Common.{◌≡◌, Some, ap, subst, ◌∙◌}
use Rattle.literals.specs.Signed.{Signed}
use Rattle.clause_store.specs.declared.trail.Step.{Step}
use Rattle.clause_store.specs.Stored.{Stored}
use Rattle.conflict_learn.specs.Analysing.{TakesIn, step_at}
use Rattle.conflict_learn.proofs.Descent.{resolves-taken}
use Rattle.conflict_learn.proofs.analysis.Analysis.resolve.Goals as goal

pub returns-clause-resolves : goal.returns-clause-resolves
returns-clause-resolves c =
    let same = c.look_at_reason-looked.ensures.same in
    let t : TakesIn c.args.store.now.clauses c.args.store.now.trail.steps c.args.reason c.args.place (Some c.step-literal.result.literal) c.args.self.now c.take_in.new.self =
    subst (λ (st : Stored). TakesIn st.clauses st.trail.steps c.args.reason c.args.place (Some c.step-literal.result.literal) c.args.self.now c.take_in.new.self) same c.in_ok-take_in.ensures in
    let lit : c.step-literal.result.literal ≡ (step_at c.args.store.now.trail.steps c.args.place).literal =
    ap (λ (s : Step). s.literal) c.step-literal.ensures ∙ ap (λ (st : Stored). (step_at st.trail.steps c.args.place).literal) same in
    resolves-taken c.args.store.now.clauses c.args.store.now.trail.steps c.args.reason c.args.place c.args.self.now c.take_in.new.self c.mark.new.self c.requires.was_seen
    (subst (λ (l : Signed). TakesIn c.args.store.now.clauses c.args.store.now.trail.steps c.args.reason c.args.place (Some l) c.args.self.now c.take_in.new.self) lit t) c.mark.ensures
