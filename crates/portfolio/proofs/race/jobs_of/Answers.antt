use Rattle.std.proofs.Common.{refl, sym, subst, ◌∙◌, arith, All}
use Rattle.std.proofs.lemmas.List.Elements.{All-push}
use Rattle.portfolio.specs.Jobs.{IsFreshPass, IsReady}
use Rattle.portfolio.proofs.Orders.{next_job, all_last, all_front}
use Rattle.portfolio.proofs.race.jobs_of.Goals as goal

pub loop-pass-preserved : goal.loop-pass-preserved
loop-pass-preserved g c =
    let pass = c.in-Some.pass in
    let items = c.in-Some.ensures.items in
    let before = c.loop-pass.invariant in
    let more = c.push_reserved.ensures.len in
    let less = c.in-Some.ensures.cases in
    let len = before.len in
    let capacity = c.push_reserved.ensures.capacity in
    let room = before.room in record {
      fresh = λ z s h. all_front (IsFreshPass z s) _ _ pass items (before.fresh z s h);
      ready = λ z s h. subst (All (IsReady z s)) (sym c.push_reserved.ensures.items)
          (All-push (IsReady z s) _ _ (before.ready z s h) (all_last (IsFreshPass z s) _ _ pass items (before.fresh z s h)));
      workers = next_job _ _ pass _ _ _ _ items c.push_reserved.ensures.items refl before.workers;
      len = omega arith;
      room = omega arith;
      capacity = c.pop.ensures.capacity ∙ before.capacity;
    }
