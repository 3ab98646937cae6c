use Rattle.std.proofs.Common.{◌≡◌, None, ap, length, subst, sym, ◌∙◌}
use Rattle.clause_store.specs.Each.{EachAfter}
use Rattle.clause_store.specs.TrailInvariant.{IsFresh}
use Rattle.clause_store.specs.Stored.{Stored, AllFalse, HaveOwnIds}
use Rattle.clause_store.specs.Found.{HasKept}
use Rattle.conflict_learn.specs.Analysing.{IsGreatest, TakesIn, empty_state}
use Rattle.conflict_learn.proofs.Beginning.{begun}
use Rattle.conflict_learn.proofs.analysis.Analysis.begin.Goals as goal

pub false_literals-literals-requires-clause-false_clause : goal.false_literals-literals-requires-clause-false_clause
false_literals-literals-requires-clause-false_clause c = subst (λ (st : Stored). HasKept st.clauses c.args.id (AllFalse st.trail.steps)) (sym c.look-looked.ensures.same) c.requires

pub returns-clause-begins : goal.returns-clause-begins
returns-clause-begins c =
    let same = c.look-looked.ensures.same in
    let steps : c.steps-count.result.now ≡ c.args.store.now.trail.steps = c.steps-count.ensures.steps ∙ ap (λ (st : Stored). st.trail.steps) same in
    let greatest : IsGreatest c.args.store.now.trail.steps c.false_literals-literals.result.now c.greatest_depth-depth.result =
    subst (λ (st : Stored). IsGreatest st.trail.steps c.false_literals-literals.result.now c.greatest_depth-depth.result) same c.greatest_depth-depth.ensures in
    let kept : HasKept c.args.store.now.clauses c.args.id (λ ms. c.false_literals-literals.result.now ≡ ms) =
    subst (λ (st : Stored). HasKept st.clauses c.args.id (λ ms. c.false_literals-literals.result.now ≡ ms)) same c.false_literals-literals.ensures.kept in
    let taken : TakesIn c.args.store.now.clauses c.args.store.now.trail.steps c.args.id (length c.args.store.now.trail.steps) None c.clear.new.self c.take_in.new.self =
    subst (λ n. TakesIn c.args.store.now.clauses c.args.store.now.trail.steps c.args.id n None c.clear.new.self c.take_in.new.self) (ap length steps)
    (subst (λ (st : Stored). TakesIn st.clauses st.trail.steps c.args.id (length c.steps-count.result.now) None c.clear.new.self c.take_in.new.self) same c.in_ok-take_in.ensures) in
    begun c.args.store.now.clauses c.args.store.now.trail.steps c.args.id c.clear.new.self c.take_in.new.self c.greatest_depth-depth.result c.false_literals-literals.result.now
    (c.in_ok-clear.ensures ∙ ap (λ n. empty_state n c.greatest_depth-depth.result) (ap length steps)) kept greatest taken
    (subst (λ (st : Stored). HaveOwnIds st.clauses) same c.steps-count.ensures.unique)
    (subst (λ (st : Stored). EachAfter IsFresh st.trail.steps) same c.steps-count.ensures.fresh)
