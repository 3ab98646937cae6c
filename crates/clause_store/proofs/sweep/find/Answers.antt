use Rattle.std.proofs.Common.{◌≡◌, ◌⊎◌, arith}
use Rattle.literals.specs.Signed.{Signed}
use Rattle.clause_store.specs.Stored.{IsFalseOn}
use Rattle.clause_store.proofs.Loops.{take_whole, All-grown}
use Rattle.std.proofs.Common.{All}
use Rattle.clause_store.proofs.sweep.find.Goals as goal

pub loop-literal-preserved : goal.loop-literal-preserved
loop-literal-preserved c =
    All-grown (λ (m : Signed). (m ≡ c.args.other) ⊎ IsFalseOn c.args.trail.now.steps m) c.args.literals.now c.loop-literal.literal-index c.literal-item.result (omega arith) c.literal-item.is
    c.loop-literal.invariant (c.passes.ensures.no c.if-passes.false)

pub returns-clause-none : goal.returns-clause-none
returns-clause-none c =
    take_whole (All (λ (m : Signed). (m ≡ c.args.other) ⊎ IsFalseOn c.args.trail.now.steps m)) c.args.literals.now c.loop-literal.literal-index (omega arith) (omega arith) c.loop-literal.invariant
