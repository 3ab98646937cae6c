use Rattle.std.proofs.Common.{◌≡◌, ◌<◌, min, subst, arith}
use Rattle.cdcl_core.proofs.Depths.{quiet-two}
use Rattle.cdcl_core.proofs.Spans.{narrow-at, quiet-all}
use Rattle.cdcl_core.specs.Search.{IsNarrow}
use Rattle.clause_store.specs.Trail.{up_to}
use Rattle.cdcl_core.proofs.quiet.quiet_below.Goals as goal

pub returns-then-latest-clause-quiet : goal.returns-then-latest-clause-quiet
returns-then-latest-clause-quiet c d lt =
    let small : c.depth-depth.result < 4294967296 = c.depth-depth.type_inv in
    quiet-all c.args.store.now.trail.steps c.args.literals.now c.look-latest.result c.steps-steps.ensures.consistent c.look-latest.ensures.latest c.if-latest.true d (omega arith)

pub returns-clause-quiet : goal.returns-clause-quiet
returns-clause-quiet c d lt =
    let least : c.least.result ≡ min c.look-latest.result.both c.depth-depth.result = c.least.ensures in
    quiet-two (up_to d c.args.store.now.trail.steps) c.args.literals.now (c.look-latest.ensures.latest.both d (omega arith))

pub returns-clause-narrow : goal.returns-clause-narrow
returns-clause-narrow c lt some =
    let least : c.least.result ≡ min c.look-latest.result.both c.depth-depth.result = c.least.ensures in
    let depth : c.depth-depth.result ≡ c.args.store.now.trail.depth = c.depth-depth.ensures in
    let small : c.depth-depth.result < 4294967296 = c.depth-depth.type_inv in
    let at : c.look-latest.result.both ≡ c.least.result = omega arith in
    subst (λ n. IsNarrow (up_to n c.args.store.now.trail.steps) c.args.literals.now) at
    (narrow-at c.args.store.now.trail.steps c.args.literals.now c.look-latest.result c.look-latest.ensures.latest c.look-latest.ensures.longest c.if-latest.false (omega arith))
