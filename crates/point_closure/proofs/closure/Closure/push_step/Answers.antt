use Rattle.std.proofs.Common.{◌++◌, ◌∷◌, [], List, All, sym, subst}
use Rattle.point_closure.specs.declared.step.Step.{Step}
use Rattle.point_closure.specs.declared.pending.Mark.{Mark}
use Rattle.point_closure.specs.Sound.{IsPending}
use Rattle.point_closure.specs.State.{IsAtRest}
use Rattle.point_closure.specs.Whole.{AreParts, state_of}
use Rattle.point_closure.proofs.ListsLemmas.{err_when}
use Rattle.point_closure.proofs.SoundLemmas.{pending_more}
use Rattle.point_closure.proofs.PartsLemmas.{parts_step}
use Rattle.point_closure.proofs.closure.Closure.push_step.Goals as goal

pub returns-clause-closure : goal.returns-clause-closure
returns-clause-closure c =
    let s = c.args.self.now in
    let w = c.requires.whole.closure in
    let e = c.in_ok-push_both.ensures.ok in
    record {
      sized = record { points = w.sized.points; weights = w.sized.weights; use_lists = w.sized.use_lists; watch_lists = w.sized.watch_lists };
      pending = subst (λ (l : List Step). All (IsPending s.graph s.classes.unions l) s.pending.items) (sym e.0) (pending_more s.graph s.classes.unions s.steps.items c.args.step s.pending.items w.pending);
      parts = subst (λ (l : List Step). AreParts s.graph l (state_of s) c.push_both.new.marks.items) (sym e.0)
          (subst (λ (ms : List Mark). AreParts s.graph (s.steps.items ++ c.args.step ∷ []) (state_of s) ms) (sym e.1)
          (parts_step s.graph s.steps.items c.args.step (state_of s) s.marks.items c.mark-mark.result c.mark-mark.ensures c.requires.whole.rest w.parts));
    }

pub returns-in_err-push_both-clause-closure : goal.returns-in_err-push_both-clause-closure
returns-in_err-push_both-clause-closure c =
    let s = c.args.self.now in
    let w = c.requires.whole.closure in
    let e = c.in_err-push_both.ensures.err in
    record {
      sized = record { points = w.sized.points; weights = w.sized.weights; use_lists = w.sized.use_lists; watch_lists = w.sized.watch_lists };
      pending = subst (λ (l : List Step). All (IsPending s.graph s.classes.unions l) s.pending.items) (sym e.0) w.pending;
      parts = subst (λ (l : List Step). AreParts s.graph l (state_of s) c.push_both.new.marks.items) (sym e.0)
          (subst (λ (ms : List Mark). AreParts s.graph s.steps.items (state_of s) ms) (sym e.1) w.parts);
    }

pub returns-in_err-push_both-clause-whole : goal.returns-in_err-push_both-clause-whole
returns-in_err-push_both-clause-whole c = err_when c.from_residual.result _ (λ is.
    let s = c.args.self.now in
    record {
      closure = returns-in_err-push_both-clause-closure c;
      rest = subst (λ (l : List Step). IsAtRest s.graph l (state_of s)) (sym c.in_err-push_both.ensures.err.0) c.requires.whole.rest;
    })
