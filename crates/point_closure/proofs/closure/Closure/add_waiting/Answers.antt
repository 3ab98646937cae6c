use Rattle.std.proofs.Common.{◌+◌, ◌++◌, ◌∷◌, [], List, All, length, refl, sym, ap, ◌∙◌, subst}
use Rattle.std.proofs.lemmas.List.{length_push}
use Rattle.point_closure.specs.Closure.{Point}
use Rattle.point_closure.specs.Unions.{Joined}
use Rattle.point_closure.specs.Sound.{IsPending}
use Rattle.point_closure.specs.State.{State, Stands, IsAtRest, Grows}
use Rattle.point_closure.specs.Whole.{AreParts, state_of}
use Rattle.point_closure.proofs.SoundLemmas.{pending_wider}
use Rattle.point_closure.proofs.ListsLemmas.{err_when}
use Rattle.point_closure.proofs.PartsLemmas.{state_is}
use Rattle.point_closure.proofs.StateLemmas.{state_with, grows_itself}
use Rattle.point_closure.proofs.BackLemmas.{uses_grow, parts_point, stands_point}
use Rattle.point_closure.proofs.closure.Closure.add_waiting.Goals as goal

pub returns-clause-closure : goal.returns-clause-closure
returns-clause-closure c =
    let s = c.args.self.now in
    let w = c.requires.whole.closure in
    let e = c.in_ok-add_point.ensures in
    let n = c.add_point.new in
    let p : Point = record { shape = c.args.shape; arguments = c.args.arguments.now } in
    let unions = ap (λ (j : Joined). j.unions) e.ok.1 in
    let count = ap (λ (j : Joined). j.count) e.ok.1 in
    let state = state_is unions refl refl refl c.add_point.ensures.watches refl refl in
    record {
      sized = record {
        points = ap length e.ok.0 ∙ length_push s.graph p ∙ ap (λ k. k + 1) w.sized.points ∙ sym count;
        weights = c.add_point.ensures.weights;
        use_lists = c.add_point.ensures.use_count;
        watch_lists = c.add_point.ensures.watch_count;
      };
      pending = subst (λ us. All (IsPending n.graph us s.steps.items) s.pending.items) (sym unions)
          (subst (λ (ps : List Point). All (IsPending ps s.classes.unions s.steps.items) s.pending.items) (sym e.ok.0) (pending_wider s.graph p s.classes.unions s.steps.items s.pending.items w.pending));
      parts = subst (λ (ps : List Point). AreParts ps s.steps.items (state_with n.classes.unions s.table.hashes s.table.points n.uses.changes n.watches.changes s.pairs.items s.met.items) s.marks.items) (sym e.ok.0)
          (subst (λ (x : State). AreParts (s.graph ++ p ∷ []) s.steps.items x s.marks.items) (sym state)
          (parts_point s.graph p s.steps.items (state_of s) s.marks.items n.uses.changes (ap length c.requires.first) e.below w.parts));
    }

pub returns-clause-grows : goal.returns-clause-grows
returns-clause-grows c =
    let s = c.args.self.now in
    let e = c.in_ok-add_point.ensures in
    let state = state_is (ap (λ (j : Joined). j.unions) e.ok.1) refl refl refl c.add_point.ensures.watches refl refl in
    subst (λ (x : State). Grows (state_of s) x) (sym state) (uses_grow (state_of s) c.add_point.new.uses.changes e.begins)

pub returns-clause-stands : goal.returns-clause-stands
returns-clause-stands c =
    let s = c.args.self.now in
    let e = c.in_ok-add_point.ensures in
    let n = c.add_point.new in
    let p : Point = record { shape = c.args.shape; arguments = c.args.arguments.now } in
    let state = state_is (ap (λ (j : Joined). j.unions) e.ok.1) refl refl refl c.add_point.ensures.watches refl refl in
    subst (λ (ps : List Point). Stands ps s.steps.items (state_with n.classes.unions s.table.hashes s.table.points n.uses.changes n.watches.changes s.pairs.items s.met.items) s.pending.items (length s.graph ∷ []) 0) (sym e.ok.0)
    (subst (λ (x : State). Stands (s.graph ++ p ∷ []) s.steps.items x s.pending.items (length s.graph ∷ []) 0) (sym state)
    (stands_point s.graph p s.steps.items (state_of s) n.uses.changes s.pending.items c.requires.whole.closure.parts.filed e.puts c.requires.whole.rest))

pub returns-in_err-add_point-clause-closure : goal.returns-in_err-add_point-clause-closure
returns-in_err-add_point-clause-closure c =
    let s = c.args.self.now in
    let w = c.requires.whole.closure in
    let e = c.in_err-add_point.ensures.err in
    let n = c.add_point.new in
    let unions = ap (λ (j : Joined). j.unions) e.1 in
    let count = ap (λ (j : Joined). j.count) e.1 in
    let state = state_is unions refl refl e.2 c.add_point.ensures.watches refl refl in
    record {
      sized = record {
        points = ap length e.0 ∙ w.sized.points ∙ sym count;
        weights = c.add_point.ensures.weights;
        use_lists = c.add_point.ensures.use_count;
        watch_lists = c.add_point.ensures.watch_count;
      };
      pending = subst (λ us. All (IsPending n.graph us s.steps.items) s.pending.items) (sym unions)
          (subst (λ (ps : List Point). All (IsPending ps s.classes.unions s.steps.items) s.pending.items) (sym e.0) w.pending);
      parts = subst (λ (ps : List Point). AreParts ps s.steps.items (state_with n.classes.unions s.table.hashes s.table.points n.uses.changes n.watches.changes s.pairs.items s.met.items) s.marks.items) (sym e.0)
          (subst (λ (x : State). AreParts s.graph s.steps.items x s.marks.items) (sym state) w.parts);
    }

pub returns-in_err-add_point-clause-grows : goal.returns-in_err-add_point-clause-grows
returns-in_err-add_point-clause-grows c =
    let s = c.args.self.now in
    let e = c.in_err-add_point.ensures.err in
    let state = state_is (ap (λ (j : Joined). j.unions) e.1) refl refl e.2 c.add_point.ensures.watches refl refl in
    subst (λ (x : State). Grows (state_of s) x) (sym state) (grows_itself (state_of s))

pub returns-in_err-add_point-clause-whole : goal.returns-in_err-add_point-clause-whole
returns-in_err-add_point-clause-whole c = err_when c.from_residual.result _ (λ is.
    let s = c.args.self.now in
    let e = c.in_err-add_point.ensures.err in
    let n = c.add_point.new in
    let state = state_is (ap (λ (j : Joined). j.unions) e.1) refl refl e.2 c.add_point.ensures.watches refl refl in
    record {
      closure = returns-in_err-add_point-clause-closure c;
      rest = subst (λ (ps : List Point). IsAtRest ps s.steps.items (state_with n.classes.unions s.table.hashes s.table.points n.uses.changes n.watches.changes s.pairs.items s.met.items)) (sym e.0)
          (subst (λ (x : State). IsAtRest s.graph s.steps.items x) (sym state) c.requires.whole.rest);
    })
