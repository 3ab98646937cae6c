use Rattle.std.proofs.Common.{refl, arith}
use Rattle.point_closure.proofs.ListsLemmas.{ok_then}
use Rattle.point_closure.specs.Whole.{state_of}
use Rattle.point_closure.proofs.PartsLemmas.{state_is}
use Rattle.point_closure.proofs.BackLemmas.{begins_pairs, watches_grow, parts_watches}
use Rattle.point_closure.proofs.closure.Closure.add_watch.Goals as goal

pub returns-clause-whole : goal.returns-clause-whole
returns-clause-whole c =
    let s = c.args.self.now in
    let w = c.requires.whole in
    let e = c.watch_pair.ensures in
    let n = c.watch_pair.new in
    record {
      sized = record { points = w.sized.points; weights = w.sized.weights; use_lists = w.sized.use_lists; watch_lists = (let a = w.sized.watch_lists in omega (arith, e.count)) };
      pending = w.pending;
      parts = parts_watches s.graph s.steps.items (state_of s) s.marks.items c.args.watch n.watches.changes n.pairs.items n.met.items c.requires.left c.requires.right e.pairs e.lists e.met e.below w.parts;
    }

pub returns-clause-keeps : goal.returns-clause-keeps
returns-clause-keeps c =
    let s = c.args.self.now in
    let e = c.watch_pair.ensures in
    let n = c.watch_pair.new in
    record { graph = refl; steps = refl; marks = refl; grows = watches_grow (state_of s) n.watches.changes n.pairs.items n.met.items e.lists (begins_pairs s.pairs.items n.pairs.items c.args.watch e.pairs) e.met }

pub returns-clause-watches : goal.returns-clause-watches
returns-clause-watches c = ok_then c.watch_pair.result _ _ c.watch_pair.ensures.ok (λ h. record { state = state_is refl refl refl refl h.lists h.pairs refl; met = h.at_once })
