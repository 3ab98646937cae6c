use Rattle.std.proofs.Common.{rules, ap, ◌∙◌, ◌≡◌, ◌<◌, length, arith}
use Rattle.std.specs.Prelude.{slice_set}
use Rattle.std.proofs.lemmas.List.{length-set}
use Rattle.std.proofs.lemmas.List.Edits.{map_over_more}
use Rattle.race_model.specs.declared.state.Worker.{Worker}
use Rattle.race_model.specs.Race.{cut_worker}
use Rattle.race_model.proofs.state.cut_workers.Goals as goal

pub loop-i-preserved : goal.loop-i-preserved
loop-i-preserved c =
    let same = c.loop-i.auto.workers in
    let lt : c.loop-i.i < length c.args.workers.now = omega arith in
    let now : c.cut_one.new.worker ≡ cut_worker c.args.count c.args.entries.now c.index-workers-i.result = search rules in
    record {
      within = omega (arith, length-set c.loop-i.workers c.loop-i.i c.cut_one.new.worker);
      done = ap (λ (w : Worker). slice_set c.loop-i.workers c.loop-i.i w) now
          ∙ map_over_more (cut_worker c.args.count c.args.entries.now) c.args.workers.now c.loop-i.workers c.loop-i.i c.index-workers-i.result lt c.loop-i.invariant.done c.index-workers-i.is;
    }
