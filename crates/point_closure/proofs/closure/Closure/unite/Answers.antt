use Rattle.std.proofs.Common.{ℕ, ◌++◌, ◌∷◌, [], List, All, refl, sym, ap, ◌∙◌, subst, arith}
use Rattle.point_closure.specs.Unions.{Joined}
use Rattle.point_closure.specs.declared.classes.Union.{Union}
use Rattle.point_closure.specs.declared.lists.Change.{Change}
use Rattle.point_closure.specs.declared.lists.Change.TheVariants.{Join}
use Rattle.point_closure.specs.declared.closure.Closure.{Closure}
use Rattle.point_closure.specs.Lists.{Listed, list_of}
use Rattle.std.specs.Prelude.{Contains}
use Rattle.point_closure.specs.Rest.{Meets, IsAcross, watch_at}
use Rattle.point_closure.specs.Sound.{IsPending}
use Rattle.point_closure.specs.State.{State, Stands, Grows}
use Rattle.point_closure.specs.Whole.{AreParts, state_of}
use Rattle.point_closure.proofs.KeepsLemmas.{keeps_more}
use Rattle.point_closure.proofs.SoundLemmas.{pending_push}
use Rattle.point_closure.proofs.GoingLemmas.{stands_joined}
use Rattle.point_closure.proofs.PartsLemmas.{state_is, joined_grows, parts_joined, met_grows, parts_met}
use Rattle.point_closure.proofs.closure.Closure.unite.Goals as goal

abbrev state_of_new : Closure → List Union → List Change → List Change → List ℕ → State
state_of_new s us uses watches met' = record { unions = us; hashes = s.table.hashes; points = s.table.points; uses = uses; watches = watches; pairs = s.pairs.items; met = met' }

pub refile-requires-clause-whole : goal.refile-requires-clause-whole
refile-requires-clause-whole c =
    let s = c.args.self.now in
    let w = c.requires.whole in
    let u = c.args.union in
    let n = c.join_all.new in
    let unions = ap (λ (j : Joined). j.unions) c.in_ok-join_all.ensures.classes in
    let count = ap (λ (j : Joined). j.count) c.in_ok-join_all.ensures.classes in
    let use_count = ap (λ (l : Listed). l.count) c.in_ok-join_all.ensures.uses in
    let watch_count = ap (λ (l : Listed). l.count) c.in_ok-join_all.ensures.watches in
    record {
      sized = record {
        points = w.sized.points ∙ sym count;
        weights = (let a = w.sized.weights in let b = c.join_all.ensures.weights in omega arith);
        use_lists = (let a = w.sized.use_lists in omega arith);
        watch_lists = (let a = w.sized.watch_lists in omega arith);
      };
      pending = subst (λ us. All (IsPending s.graph us s.steps.items) s.pending.items) (sym unions) (pending_push s.graph s.classes.unions s.steps.items u s.pending.items w.pending);
      parts = subst (λ (x : State). AreParts s.graph s.steps.items x s.marks.items)
          (sym (state_is unions refl refl (ap (λ (l : Listed). l.changes) c.in_ok-join_all.ensures.uses) (ap (λ (l : Listed). l.changes) c.in_ok-join_all.ensures.watches) refl refl))
          (parts_joined s.graph s.steps.items (state_of s) s.marks.items u n.met.items c.requires.justified c.join_all.ensures.met w.parts);
    }

pub returns-clause-keeps : goal.returns-clause-keeps
returns-clause-keeps c =
    let s = c.args.self.now in
    let unions = ap (λ (j : Joined). j.unions) c.in_ok-join_all.ensures.classes in
    keeps_more s _ c.refile.new.self (record {
      graph = refl;
      steps = refl;
      marks = refl;
      grows = subst (λ (x : State). Grows (state_of s) x)
          (sym (state_is unions refl refl (ap (λ (l : Listed). l.changes) c.in_ok-join_all.ensures.uses) (ap (λ (l : Listed). l.changes) c.in_ok-join_all.ensures.watches) refl refl))
          (joined_grows (state_of s) c.args.union c.join_all.new.met.items c.join_all.ensures.met);
    }) c.refile.ensures.keeps

pub refile-requires-clause-stands : goal.refile-requires-clause-stands
refile-requires-clause-stands c =
    let s = c.args.self.now in
    let u = c.args.union in
    let unions = ap (λ (j : Joined). j.unions) c.in_ok-join_all.ensures.classes in
    let uses = ap (λ (l : Listed). l.changes) c.in_ok-join_all.ensures.uses in
    let state = state_is unions refl refl uses (ap (λ (l : Listed). l.changes) c.in_ok-join_all.ensures.watches) refl refl in
    subst (λ cs. Stands s.graph s.steps.items (state_of_new s c.join_all.new.classes.unions c.join_all.new.uses.changes c.join_all.new.watches.changes c.join_all.new.met.items) s.pending.items (list_of cs u.gone) 0) (sym uses)
    (subst (λ (x : State). Stands s.graph s.steps.items x s.pending.items (list_of (s.uses.changes ++ Join u.kept u.gone ∷ []) u.gone) 0) (sym state)
    (stands_joined s.graph s.steps.items (state_of s) s.pending.items u c.join_all.new.met.items c.requires.union.different c.requires.whole.parts.filed
    (subst (λ ws. Meets ws s.classes.unions u.kept u.gone s.met.items c.join_all.new.met.items) c.deref.ensures.value c.in_ok-join_all.ensures.meets)
    (subst (λ ws. (k : ℕ) → Contains (list_of s.watches.changes u.gone) k → IsAcross s.classes.unions u.kept u.gone (watch_at ws k) → Contains c.join_all.new.met.items k) c.deref.ensures.value c.in_ok-join_all.ensures.all)
    c.requires.stands))

pub returns-in_err-join_all-clause-whole : goal.returns-in_err-join_all-clause-whole
returns-in_err-join_all-clause-whole c =
    let s = c.args.self.now in
    let w = c.requires.whole in
    let e = c.in_err-join_all.ensures.err in
    let unions = ap (λ (j : Joined). j.unions) e.0 in
    let count = ap (λ (j : Joined). j.count) e.0 in
    let use_count = ap (λ (l : Listed). l.count) e.1 in
    let watch_count = ap (λ (l : Listed). l.count) e.2 in
    record {
      sized = record {
        points = w.sized.points ∙ sym count;
        weights = (let a = w.sized.weights in let b = c.join_all.ensures.weights in omega arith);
        use_lists = (let a = w.sized.use_lists in omega arith);
        watch_lists = (let a = w.sized.watch_lists in omega arith);
      };
      pending = subst (λ us. All (IsPending s.graph us s.steps.items) s.pending.items) (sym unions) w.pending;
      parts = subst (λ (x : State). AreParts s.graph s.steps.items x s.marks.items)
          (sym (state_is unions refl refl (ap (λ (l : Listed). l.changes) e.1) (ap (λ (l : Listed). l.changes) e.2) refl refl))
          (parts_met s.graph s.steps.items (state_of s) s.marks.items c.join_all.new.met.items c.join_all.ensures.met w.parts);
    }

pub returns-in_err-join_all-clause-keeps : goal.returns-in_err-join_all-clause-keeps
returns-in_err-join_all-clause-keeps c =
    let s = c.args.self.now in
    let e = c.in_err-join_all.ensures.err in
    record {
      graph = refl;
      steps = refl;
      marks = refl;
      grows = subst (λ (x : State). Grows (state_of s) x)
          (sym (state_is (ap (λ (j : Joined). j.unions) e.0) refl refl (ap (λ (l : Listed). l.changes) e.1) (ap (λ (l : Listed). l.changes) e.2) refl refl))
          (met_grows (state_of s) c.join_all.new.met.items c.join_all.ensures.met);
    }
