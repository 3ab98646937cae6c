use Rattle.std.proofs.Common.{◌≡◌, ◌+◌, ◌<◌, ◌∙◌, All, ap, subst, sym, length, arith}
use Rattle.clause_store.specs.Stored.{Stored}
use Rattle.conflict_learn.specs.Analysing.{Resolves, with_place}
use Rattle.conflict_learn.proofs.Split.{Shrinking, low_at, low_within, kept_within, shrinking-kept, shrinking-resolved, shrunk}
use Rattle.conflict_learn.proofs.analysis.Analysis.shrink.Goals as goal
use Rattle.conflict_learn.proofs.analysis.Analysis.shrink.Goals.{in-Some+in_ok-resolve-in-Some, in-None+in_ok-keep-in-None}

pub dispensable-requires-clause-within : goal.dispensable-requires-clause-within
dispensable-requires-clause-within c =
    subst (λ (st : Stored). c.lower_at-place.result < length st.trail.steps) (sym c.loop-j.invariant.same)
    (low_within c.args.store.now.clauses c.args.store.now.trail.steps c.loop-j.self c.loop-j.j c.lower_at-place.result c.loop-j.invariant.shrinking.sound (omega arith) c.lower_at-place.ensures)

pub resolve-requires-clause-was_seen : goal.resolve-requires-clause-was_seen
resolve-requires-clause-was_seen c = (low_at c.args.store.now.clauses c.args.store.now.trail.steps c.loop-j.self c.loop-j.j c.lower_at-place.result c.loop-j.invariant.shrinking.sound (omega arith) c.lower_at-place.ensures).0

pub keep-requires-clause-within : goal.keep-requires-clause-within
keep-requires-clause-within c =
    subst (λ (st : Stored). c.lower_at-place.result < length st.trail.steps) (sym (c.dispensable.ensures.same ∙ c.loop-j.invariant.same))
    (low_within c.args.store.now.clauses c.args.store.now.trail.steps c.loop-j.self c.loop-j.j c.lower_at-place.result c.loop-j.invariant.shrinking.sound (omega arith) c.lower_at-place.ensures)

pub keep-requires-clause-all_within : goal.keep-requires-clause-all_within
keep-requires-clause-all_within c =
    subst (λ (st : Stored). All (λ k. k < length st.trail.steps) c.loop-j.kept.items) (sym (c.dispensable.ensures.same ∙ c.loop-j.invariant.same))
    (kept_within c.args.store.now.clauses c.args.store.now.trail.steps c.loop-j.self c.loop-j.j c.loop-j.kept.items c.loop-j.invariant.shrinking.sound c.loop-j.invariant.shrinking.split)

pub loop-j-preserved : goal.loop-j-preserved
loop-j-preserved c = elim c.match-dispensable.branch [
  | in-Some+in_ok-resolve-in-Some w ↦
      let same = c.dispensable.ensures.same ∙ c.loop-j.invariant.same in
      let r : Resolves c.args.store.now.clauses c.args.store.now.trail.steps c.lower_at-place.result c.loop-j.self c.match-dispensable.self =
      subst (Resolves c.args.store.now.clauses c.args.store.now.trail.steps c.lower_at-place.result c.loop-j.self) (sym w.self-is)
      (subst (λ (st : Stored). Resolves st.clauses st.trail.steps c.lower_at-place.result c.loop-j.self w.resolve.new.self) same w.in_ok-resolve-in-Some.ensures.resolves) in
      record {
        same = w.store-is ∙ (w.resolve.ensures.same ∙ same);
        shrinking = subst (Shrinking c.args.store.now.clauses c.args.store.now.trail.steps c.args._id c.args._uip c.args.self.now c.match-dispensable.self (c.loop-j.j + 1)) (sym (ap (λ v. v.items) w.kept-is))
            (shrinking-resolved c.args.store.now.clauses c.args.store.now.trail.steps c.args._id c.args._uip c.args.self.now c.loop-j.self c.match-dispensable.self c.loop-j.j c.lower_at-place.result c.loop-j.kept.items
            c.steps-steps.ensures.in_order (omega arith) c.lower_at-place.ensures r c.loop-j.invariant.shrinking);
        flags = c.dispensable.ensures.flags ∙ c.loop-j.invariant.flags;
      }
  | in-None+in_ok-keep-in-None w ↦
      let same = c.dispensable.ensures.same ∙ c.loop-j.invariant.same in
      let placed : c.match-dispensable.kept.items ≡ with_place c.args.store.now.trail.steps c.lower_at-place.result c.loop-j.kept.items =
      ap (λ v. v.items) w.kept-is ∙ subst (λ (st : Stored). w.keep.new.kept.items ≡ with_place st.trail.steps c.lower_at-place.result c.loop-j.kept.items) same w.in_ok-keep-in-None.ensures in
      record {
        same = w.store-is ∙ same;
        shrinking = subst (λ s. Shrinking c.args.store.now.clauses c.args.store.now.trail.steps c.args._id c.args._uip c.args.self.now s (c.loop-j.j + 1) c.match-dispensable.kept.items) (sym w.self-is)
            (shrinking-kept c.args.store.now.clauses c.args.store.now.trail.steps c.args._id c.args._uip c.args.self.now c.loop-j.self c.loop-j.j c.lower_at-place.result c.loop-j.kept.items c.match-dispensable.kept.items (omega arith) c.lower_at-place.ensures placed c.loop-j.invariant.shrinking);
        flags = c.dispensable.ensures.flags ∙ c.loop-j.invariant.flags;
      }
]

pub returns-clause-shrinks : goal.returns-clause-shrinks
returns-clause-shrinks c =
    shrunk c.args.store.now.clauses c.args.store.now.trail.steps c.args._id c.args._uip c.args.self.now c.loop-j.self c.loop-j.j c.loop-j.kept.items (omega arith) c.loop-j.invariant.shrinking
