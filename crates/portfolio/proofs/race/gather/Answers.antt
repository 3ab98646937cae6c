use Rattle.std.proofs.Common.{ap, sym, subst, arith, ◌∷◌, [], map, All}
use Rattle.std.proofs.lemmas.List.{map-append}
use Rattle.std.proofs.lemmas.List.Elements.{All-push}
use Rattle.race_cell.specs.Passes.{claim_of, IsPassOf}
use Rattle.portfolio.specs.Jobs.{HasEnded, IsDone, worker_in}
use Rattle.portfolio.specs.Tallies.{Tallied}
use Rattle.portfolio.proofs.Orders.{next_pass, has_ended, all_last, all_front}
use Rattle.portfolio.proofs.race.gather.Goals as goal

pub loop-job-preserved : goal.loop-job-preserved
loop-job-preserved g c =
    let z = c.args.race.now.table.shared.table_id in
    let s = c.args.stack.now in
    let limit = c.args.settings.now.units in
    let job = c.in-Some.job in
    let pass = c.in-Some-pass.pass in
    let items = c.in-Some.ensures.items in
    let pushed = c.push_reserved.ensures.items in
    let before = c.loop-job.invariant in
    let ended : HasEnded z s limit pass c.in-Some-outcome.outcome =
    has_ended z s limit job pass c.in-Some-outcome.outcome c.in-Some-pass.is c.in-Some-outcome.is (all_last (IsDone z s limit) _ _ job items before.done) in
    let more = c.push_reserved.ensures.len in
    let less = c.in-Some.ensures.cases in
    let capacity = c.push_reserved.ensures.capacity in
    let kept = c.add.ensures.capacity in
    let few = c.add.ensures.len in
    let room = before.room in
    let reports = before.reports in record {
      done = all_front (IsDone z s limit) _ _ job items before.done;
      all = subst (All (IsPassOf z)) (sym pushed) (All-push (IsPassOf z) _ _ before.all ended.race);
      workers = next_pass _ _ job _ _ pass _ items pushed (ap worker_in c.in-Some-pass.is) before.workers;
      tallied = subst (λ ps. Tallied s limit (map claim_of ps) c.add.new.self) (sym pushed)
          (subst (λ cs. Tallied s limit cs c.add.new.self) (sym (map-append claim_of c.loop-job.passes.items (pass ∷ [])))
          (c.add.ensures.tallied s limit (map claim_of c.loop-job.passes.items) (claim_of pass) ended.outcome ended.memory before.tallied));
      room = omega arith;
      reports = omega arith;
    }
