use Rattle.std.proofs.Common.{rules, ◌≡◌, ◌∙◌, ap, sym, subst, arith, length, map, All}
use Rattle.std.specs.Prelude.{reverse}
use Rattle.race_model.specs.Base.{Base}
use Rattle.race_model.specs.Shelves.{ShelfState}
use Rattle.lemma_pool.specs.Pools.{Grows}
use Rattle.portfolio.specs.Jobs.{IsReady, IsDone, job_worker}
use Rattle.portfolio.proofs.Orders.{all_done, fresh_in_order, fresh_passes, pass_count, written_back}
use Rattle.portfolio.proofs.race.race.Goals as goal

pub follow-requires-clause-grows : goal.follow-requires-clause-grows
follow-requires-clause-grows g c =
    let base : Base = record { trees = c.args.stack.now.trees; frames = c.args.stack.now.frames } in
    subst (λ b. Grows b base) (sym (ap (λ (x : ShelfState). x.base) c.new-pool.ensures)) (c.follows_from_nothing.ensures base)

pub drive-requires-clause-ready : goal.drive-requires-clause-ready
drive-requires-clause-ready g c κs within =
    let z = c.in-Ok.race.table.shared.table_id in
    let s = c.args.stack.now in
    subst (All (IsReady z s)) (sym c.as_mut_slice.ensures.value)
    (c.in_ok-jobs.ensures.ready z s
    (fresh_passes z s _ c.args.settings.now.workers c.in-Ok.passes.items c.in-Ok.ensures.claims c.in-Ok.ensures.race.0 (c.in-Ok.ensures.race.1.base ∙ c.follow.ensures.base)))

pub gather-requires-clause-done : goal.gather-requires-clause-done
gather-requires-clause-done g c =
    let z = c.in-Ok.race.table.shared.table_id in
    let s = c.args.stack.now in
    let limit = c.args.settings.now.units in
    let value = c.as_mut_slice.ensures.value in
    let size = c.drive.auto.jobs in
    subst (All (IsDone z s limit)) (sym (written_back c.in_ok-jobs.jobs.items c.drive.new.jobs c.in_ok-jobs.jobs.len (size ∙ ap length value) (ap length (sym value) ∙ c.as_mut_slice.ensures.len)))
    (all_done z s limit c.as_mut_slice.result.now c.drive.new.jobs size c.drive.ensures).0

pub gather-requires-clause-tallied : goal.gather-requires-clause-tallied
gather-requires-clause-tallied g c = c.in_ok-tally.ensures.none c.args.stack.now c.args.settings.now.units

pub gather-requires-clause-reports : goal.gather-requires-clause-reports
gather-requires-clause-reports g c =
    let none = c.in_ok-tally.ensures.len in
    let room = c.in_ok-tally.ensures.room in
    let jobs = c.in_ok-jobs.ensures.len in
    let passes : c.in-Ok.passes.len ≡ length c.in-Ok.passes.items = search rules in
    let count = pass_count c.in-Ok.passes.items 0 c.args.settings.now.workers (fresh_in_order c.args.settings.now.workers c.in-Ok.passes.items c.in-Ok.ensures.claims) in
    omega arith

pub conclude-requires-clause-order : goal.conclude-requires-clause-order
conclude-requires-clause-order g c =
    let value = c.as_mut_slice.ensures.value in
    let size = c.drive.auto.jobs in
    let back = written_back c.in_ok-jobs.jobs.items c.drive.new.jobs c.in_ok-jobs.jobs.len (size ∙ ap length value) (ap length (sym value) ∙ c.as_mut_slice.ensures.len) in
    c.gather.ensures.workers
    ∙ (ap (λ l. reverse (map job_worker l)) back
    ∙ (ap reverse (all_done c.in-Ok.race.table.shared.table_id c.args.stack.now c.args.settings.now.units c.as_mut_slice.result.now c.drive.new.jobs size c.drive.ensures).1
    ∙ (ap (λ l. reverse (map job_worker l)) value
    ∙ (c.in_ok-jobs.ensures.workers ∙ fresh_in_order c.args.settings.now.workers c.in-Ok.passes.items c.in-Ok.ensures.claims))))
