use Rattle.std.proofs.Common.{◌≡◌, ◌+◌, ◌-◌, false, sym, subst, arith, drop, reverse}
use Rattle.clause_form.specs.Signs.{once, clashes}
use Rattle.clause_form.specs.Plain.{signs}
use Rattle.clause_form.proofs.Gathering.{gathers, stays_clear, clash_found, turned}
use Rattle.clause_form.proofs.gather.gather.Goals as goal

pub returns-then-branch-clause-clash : goal.returns-then-branch-clause-clash
returns-then-branch-clause-clash c =
    let next : c.loop-i.i - 1 + 1 ≡ c.loop-i.i = omega arith in
    sym (clash_found c.args.literals.now (c.loop-i.i - 1) c.index-literals-i.result (signs c.loop-i.kept.items) (omega arith) c.index-literals-i.is
    (subst (λ k. signs c.loop-i.kept.items ≡ reverse (once (signs (drop k c.args.literals.now)))) (sym next) c.loop-i.invariant.kept)
    (c.in_ok-take_in.ensures.clash c.if-branch.true))

pub loop-i-preserved : goal.loop-i-preserved
loop-i-preserved c =
    let next : c.loop-i.i - 1 + 1 ≡ c.loop-i.i = omega arith in
    let kept : signs c.loop-i.kept.items ≡ reverse (once (signs (drop (c.loop-i.i - 1 + 1) c.args.literals.now))) =
    subst (λ k. signs c.loop-i.kept.items ≡ reverse (once (signs (drop k c.args.literals.now)))) (sym next) c.loop-i.invariant.kept in
    let clear : clashes (signs (drop (c.loop-i.i - 1 + 1) c.args.literals.now)) ≡ false =
    subst (λ k. clashes (signs (drop k c.args.literals.now)) ≡ false) (sym next) c.loop-i.invariant.clear in
    record {
      within = omega arith;
      placed = c.in_ok-take_in.ensures.placed;
      kept = gathers c.args.literals.now (c.loop-i.i - 1) c.index-literals-i.result (signs c.loop-i.kept.items) (signs c.take_in.new.kept.items) (omega arith) c.index-literals-i.is kept
          (c.in_ok-take_in.ensures.kept c.if-branch.false);
      clear = stays_clear c.args.literals.now (c.loop-i.i - 1) c.index-literals-i.result (signs c.loop-i.kept.items) (omega arith) c.index-literals-i.is kept (c.in_ok-take_in.ensures.clear c.if-branch.false) clear;
    }

pub returns-clause-kept : goal.returns-clause-kept
returns-clause-kept c h =
    let start : c.loop-i.i ≡ 0 = omega arith in
    turned c.loop-i.kept.items c.turn.new.literals.items (once (signs c.args.literals.now))
    (subst (λ k. signs c.loop-i.kept.items ≡ reverse (once (signs (drop k c.args.literals.now)))) start c.loop-i.invariant.kept) c.turn.ensures
