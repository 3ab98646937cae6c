use Rattle.std.proofs.Common.{◌≡◌, ◌∙◌, All, ap, arith, refl, subst, sym}
use Rattle.std.specs.List.{range_with_len}
use Rattle.smt_meaning.specs.declared.reports.Report.{Report}
use Rattle.smt_meaning.specs.Report.{Shows}
use Rattle.proof_check.proofs.Reporting.{one_more, shown_more}
use Rattle.proof_check.proofs.undecided.reports.Goals as goal

pub loop-worker-preserved : goal.loop-worker-preserved
loop-worker-preserved c = record {
  one_each = rw c.in_ok-push.ensures.ok (one_more c.loop-worker.reports c.loop-worker.worker _ c.loop-worker.invariant.one_each refl);
  shown = λ ts frames limit.
      subst (λ xs. All (λ (r : Report). Shows ts frames limit r.branches r.cause) xs) (sym c.in_ok-push.ensures.ok)
      (shown_more ts frames limit c.loop-worker.reports _ (c.loop-worker.invariant.shown ts frames limit) refl);
}

pub returns : goal.returns
returns c ts frames limit =
    let same : c.loop-worker.worker ≡ c.args.workers = omega arith in
    record {
      one_each = c.loop-worker.invariant.one_each ∙ ap (λ n. range_with_len 0 n) same;
      shown = c.loop-worker.invariant.shown ts frames limit;
    }
