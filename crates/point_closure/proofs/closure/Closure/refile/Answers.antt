use Rattle.std.proofs.Common.{◌<◌, ℕ, List, All, length, refl, sym, subst}
use Rattle.point_closure.specs.Rest.{AreFiled}
use Rattle.point_closure.proofs.ListsLemmas.{ok_then}
use Rattle.point_closure.proofs.GoingLemmas.{list_below, stands_refiled}
use Rattle.point_closure.proofs.PartsLemmas.{parts_refiled, refiled_grows}
use Rattle.point_closure.specs.Whole.{state_of}
use Rattle.point_closure.proofs.closure.Closure.refile.Goals as goal

pub refile-requires-clause-owners : goal.refile-requires-clause-owners
refile-requires-clause-owners c =
    let s = c.args.self.now in
    subst (λ (l : List ℕ). All (λ x. x < length s.graph) l) (sym c.list.ensures) (list_below (length s.graph) s.uses.changes c.args.gone c.requires.whole.parts.owners)

pub refile-requires-clause-waits : goal.refile-requires-clause-waits
refile-requires-clause-waits c =
    let s = c.args.self.now in
    subst (λ (l : List ℕ). AreFiled s.graph s.classes.unions s.table s.pending.items l 0) (sym c.list.ensures) c.requires.stands.filed

pub returns-clause-whole : goal.returns-clause-whole
returns-clause-whole c =
    let s = c.args.self.now in
    let w = c.requires.whole in
    record {
      sized = record { points = w.sized.points; weights = w.sized.weights; use_lists = w.sized.use_lists; watch_lists = w.sized.watch_lists };
      pending = c.refile.ensures.sound s.steps.items w.pending;
      parts = parts_refiled s.graph s.steps.items (state_of s) s.marks.items c.refile.new.table c.refile.ensures.grows c.refile.ensures.filed w.parts;
    }

pub returns-clause-keeps : goal.returns-clause-keeps
returns-clause-keeps c = record { graph = refl; steps = refl; marks = refl; grows = refiled_grows (state_of c.args.self.now) c.refile.new.table c.refile.ensures.grows }

pub returns-clause-stands : goal.returns-clause-stands
returns-clause-stands c = ok_then c.refile.result _ _ c.refile.ensures.ok (λ filed.
    let s = c.args.self.now in
    stands_refiled s.graph s.steps.items (state_of s) c.refile.new.table s.pending.items c.refile.new.pending.items _ 0 c.refile.ensures.begins filed c.requires.stands)
