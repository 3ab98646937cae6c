use Rattle.std.proofs.Common.{arith, ◌≡◌, ◌++◌, ap, ◌∙◌, subst}
use Rattle.atomic_table.specs.Table.{Me}
use Rattle.race_cell.specs.declared.view.View.{View}
use Rattle.race_cell.specs.Actions.{numbers_from}
use Rattle.race_cell.specs.Rules.{AtEnd}
use Rattle.race_cell.specs.Passes as of
use Rattle.race_cell.proofs.Ends.{ended, grows}
use Rattle.race_cell.proofs.race.Race.end.Goals as goal

pub loop-worker-preserved : goal.loop-worker-preserved
loop-worker-preserved g c = record {
  same = c.end.ensures.entries ∙ c.loop-worker.invariant.same;
  base = c.end.ensures.base ∙ c.loop-worker.invariant.base;
  global = c.end.ensures.global ∙ c.loop-worker.invariant.global;
  more = grows _ _ _ c.loop-worker.worker c.end.ensures.ended c.loop-worker.invariant.more;
  room = let a = c.end.ensures.room in let b = c.loop-worker.invariant.room in omega arith;
}

pub returns : goal.returns
returns g c =
    let st = g.S.Shelf.state in
    let n = c.args.self.table.shared.key.workers in
    let claims = ap (λ (z : Me g.row.S.Denot (View g.row.S.Denot)). z.0.claims) c.gather-seat.ensures.claims in
    let all : c.loop-worker.worker ≡ n = let crew = c.args.self.crew in let done = c.loop-worker.auto.worker-end in omega arith in
    let last = subst (λ l. AtEnd st (of.race_base st c.args.self) n l c.close-shelf.result) claims c.close-shelf.ensures in
    ended st (of.race_base st c.args.self) n _ c.close-shelf.result c.loop-worker.shelf last c.loop-worker.invariant.same c.loop-worker.invariant.base c.loop-worker.invariant.global (c.loop-worker.invariant.more ∙ ap (λ k. (st c.close-shelf.result).ended ++ numbers_from 0 k) all)
