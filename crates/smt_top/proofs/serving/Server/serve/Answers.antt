use Rattle.std.proofs.Common.{arith, ◌∙◌, refl}
use Rattle.std.proofs.lemmas.Result.{err_from_is_err_and}
use Rattle.smt_top.specs.Progress.{Comes}
use Rattle.smt_top.proofs.Servings.{served_none, served_on, served_as, served_cut, Next, Still}
use Rattle.smt_top.proofs.serving.Server.serve.Goals as goal

pub loop-stage-init : goal.loop-stage-init
loop-stage-init g c = record {
  served = served_none _ _ _ _;
  numbered = c.requires.numbered;
  finished = refl;
  size = refl;
  later = omega arith;
  may = c.requires.may;
}

pub loop-stage-preserved : goal.loop-stage-preserved
loop-stage-preserved g c = record {
  served =
      served_as _ _ _ _ _ _ _ _ (Next) (Still) _ tt (λ s input run h. h)
      (served_on _ _ _ _ _ _ _ _ _ _ _ _ _ _ c.loop-stage.invariant.served (rw c.in_default.is at c.in_ok-stage.ensures.served));
  numbered = rw c.in_default.is at c.in_ok-stage.ensures.numbered;
  finished = c.in_ok-stage.ensures.finished ∙ c.loop-stage.invariant.finished;
  size = c.in_ok-stage.ensures.size ∙ c.loop-stage.invariant.size;
  later = omega (arith, c.in_ok-stage.ensures.cause, c.loop-stage.invariant.later);
  may = c.in_ok-stage.ensures.still;
}

pub returns-in_err-stage-clause-served : goal.returns-in_err-stage-clause-served
returns-in_err-stage-clause-served g c =
    let p = err_from_is_err_and c.from_residual.result c.from_residual.ensures.1 in
    rw (p.1, p.2)
    (served_cut _ _ _ _ _ _ _ _ (Next) (λ s input stage run. Comes s stage input run) _
    (served_on _ _ _ _ _ _ _ _ _ _ _ _ _ (Next) c.loop-stage.invariant.served c.in_err-stage.ensures.served))

pub returns-in-Some-clause-served : goal.returns-in-Some-clause-served
returns-in-Some-clause-served g c =
    served_as _ _ _ _ _ _ _ _ (Next) (λ s input stage run. Comes s stage input run) _ _ (λ s input run h. h)
    (served_on _ _ _ _ _ _ _ _ _ _ _ _ _ (Next) c.loop-stage.invariant.served (rw c.in-Some.is at c.in_ok-stage.ensures.served))
