use Rattle.std.proofs.Common.{arith, refl, sym, ◌∙◌}
use Rattle.model_build.specs.Given.{given_at}
use Rattle.model_build.proofs.Reading.{maps_same, maps_at}
use Rattle.model_build.proofs.applications.are_same.Goals as goal

pub returns : goal.returns
returns c = (
  λ t. maps_same (given_at c.args.given.now) c.args.a.now c.args.b.now c.loop-i.invariant.size (λ k h. c.loop-i.invariant.same k (omega arith)),
  λ e. refl,
)

pub returns-then-not-is_same : goal.returns-then-not-is_same
returns-then-not-is_same c = (
  λ t. cc,
  λ e. sym c.if-not-is_same.true ∙ c.is_same.ensures.1 (maps_at (given_at c.args.given.now) c.args.a.now c.args.b.now c.loop-i.i c.loop-i.invariant.size c.loop-i-test.true e),
)
