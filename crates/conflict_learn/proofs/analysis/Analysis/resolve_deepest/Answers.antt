use Rattle.std.proofs.Common.{◌≡◌, ◌+◌, ◌-◌, ◌<◌, ◌&&◌, ◌∙◌, true, false, eqb, subst, sym, length, arith, inl, inr, ◌⊎◌}
use Rattle.clause_store.specs.Stored.{Stored}
use Rattle.conflict_learn.specs.Analysing.{IsAt, IsSound, Resolves, mark_at, step_at, is_waiting, FollowsAt}
use Rattle.conflict_learn.proofs.Descent.{passed, pending_place, sound-less, descended, follows}
use Rattle.conflict_learn.proofs.analysis.Analysis.resolve_deepest.Goals as goal

pub overflow_sub-i : goal.overflow_sub-i
overflow_sub-i c =
    let lt : 0 < c.loop-i.i = pending_place c.args.store.now.trail.steps c.loop-i.self c.loop-i.i c.loop-i.invariant.at (omega arith) in
    omega arith

pub loop-i-smaller : goal.loop-i-smaller
loop-i-smaller c =
    let lt : 0 < c.loop-i.i = pending_place c.args.store.now.trail.steps c.loop-i.self c.loop-i.i c.loop-i.invariant.at (omega arith) in
    omega arith

pub resolve-requires-clause-sound : goal.resolve-requires-clause-sound
resolve-requires-clause-sound c =
    subst (λ (st : Stored). IsSound st.clauses st.trail.steps c.uncount.new.self) (sym c.loop-i.invariant.same)
    (subst (IsSound c.args.store.now.clauses c.args.store.now.trail.steps) (sym c.uncount.ensures) (sound-less c.args.store.now.clauses c.args.store.now.trail.steps c.loop-i.self c.loop-i.invariant.sound))

pub loop-i-preserved-in-Continue-1 : goal.loop-i-preserved-in-Continue-1
loop-i-preserved-in-Continue-1 c =
    let lt : 0 < c.loop-i.i = pending_place c.args.store.now.trail.steps c.loop-i.self c.loop-i.i c.loop-i.invariant.at (omega arith) in
    let e : c.loop-i.i ≡ c.loop-i.i - 1 + 1 = omega arith in
    let at : IsAt c.args.store.now.trail.steps c.loop-i.self (c.loop-i.i - 1 + 1) = subst (IsAt c.args.store.now.trail.steps c.loop-i.self) e c.loop-i.invariant.at in
    let r : Resolves c.args.store.now.clauses c.args.store.now.trail.steps (c.loop-i.i - 1) c.uncount.new.self c.resolve.new.self =
    subst (λ (st : Stored). Resolves st.clauses st.trail.steps (c.loop-i.i - 1) c.uncount.new.self c.resolve.new.self) c.loop-i.invariant.same c.in_ok-resolve.ensures.resolves in
    let w : (is_waiting (mark_at c.loop-i.self.marks (c.loop-i.i - 1)) && eqb (step_at c.args.store.now.trail.steps (c.loop-i.i - 1)).depth c.loop-i.self.deepest) ≡ true =
    subst (λ (st : Stored). (is_waiting (mark_at c.loop-i.self.marks (c.loop-i.i - 1)) && eqb (step_at st.trail.steps (c.loop-i.i - 1)).depth c.loop-i.self.deepest) ≡ true) c.loop-i.invariant.same (sym c.waits_deep.ensures ∙ c.if-waits_deep.true) in
    let d = descended c.args.store.now.clauses c.args.store.now.trail.steps c.args._id c.args.left (c.loop-i.i - 1) c.loop-i.self c.uncount.new.self c.resolve.new.self (omega arith) c.loop-i.invariant.sound c.loop-i.invariant.grounded at w (omega arith) c.uncount.ensures r in
    record {
      same = c.resolve.ensures.same ∙ c.loop-i.invariant.same;
      sound = r.sound;
      grounded = d.0;
      at = d.1;
      enough = d.2;
      within = omega arith;
      deepest = d.3 ∙ c.loop-i.invariant.deepest;
    }

pub loop-i-preserved : goal.loop-i-preserved
loop-i-preserved c =
    let lt : 0 < c.loop-i.i = pending_place c.args.store.now.trail.steps c.loop-i.self c.loop-i.i c.loop-i.invariant.at (omega arith) in
    let e : c.loop-i.i ≡ c.loop-i.i - 1 + 1 = omega arith in
    let at : IsAt c.args.store.now.trail.steps c.loop-i.self (c.loop-i.i - 1 + 1) = subst (IsAt c.args.store.now.trail.steps c.loop-i.self) e c.loop-i.invariant.at in
    let w : (is_waiting (mark_at c.loop-i.self.marks (c.loop-i.i - 1)) && eqb (step_at c.args.store.now.trail.steps (c.loop-i.i - 1)).depth c.loop-i.self.deepest) ≡ false =
    subst (λ (st : Stored). (is_waiting (mark_at c.loop-i.self.marks (c.loop-i.i - 1)) && eqb (step_at st.trail.steps (c.loop-i.i - 1)).depth c.loop-i.self.deepest) ≡ false) c.loop-i.invariant.same (sym c.waits_deep.ensures ∙ c.if-waits_deep.false) in
    record {
      same = c.loop-i.invariant.same;
      sound = c.loop-i.invariant.sound;
      grounded = c.loop-i.invariant.grounded;
      at = passed c.args.store.now.trail.steps c.loop-i.self (c.loop-i.i - 1) at w;
      enough = c.loop-i.invariant.enough;
      within = omega arith;
      deepest = c.loop-i.invariant.deepest;
    }

pub reason_at-reason-requires : goal.reason_at-reason-requires
reason_at-reason-requires c =
    let steps = c.args.store.now.trail.steps in
    let lt : 0 < c.loop-i.i = pending_place steps c.loop-i.self c.loop-i.i c.loop-i.invariant.at (omega arith) in
    let e : c.loop-i.i ≡ c.loop-i.i - 1 + 1 = omega arith in
    let at : IsAt steps c.loop-i.self (c.loop-i.i - 1 + 1) = subst (IsAt steps c.loop-i.self) e c.loop-i.invariant.at in
    let same : c.loop-i.store ≡ c.args.store.now = c.loop-i.invariant.same in
    let w : (is_waiting (mark_at c.loop-i.self.marks (c.loop-i.i - 1)) && eqb (step_at steps (c.loop-i.i - 1)).depth c.loop-i.self.deepest) ≡ true =
    subst (λ (st : Stored). (is_waiting (mark_at c.loop-i.self.marks (c.loop-i.i - 1)) && eqb (step_at st.trail.steps (c.loop-i.i - 1)).depth c.loop-i.self.deepest) ≡ true) same (sym c.waits_deep.ensures ∙ c.if-waits_deep.true) in
    let bottom : (0 < c.args.left) ⊎ (c.loop-i.self.deepest ≡ 0) = elim c.requires.bottom [ inl some ↦ inl some | inr none ↦ inr (c.loop-i.invariant.deepest ∙ none) ] in
    subst (λ (st : Stored). record { within : c.loop-i.i - 1 < length st.trail.steps; follows : FollowsAt st.trail.steps (c.loop-i.i - 1) }) (sym same)
    record { within = omega arith; follows = follows steps c.loop-i.self (c.loop-i.i - 1) c.args.left at w (omega arith) bottom }
