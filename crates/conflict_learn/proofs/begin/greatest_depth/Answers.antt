use Rattle.std.proofs.Common.{subst, sym, arith}
use Rattle.clause_store.specs.Stored.{IsFalseOn}
use Rattle.conflict_learn.proofs.begin.greatest_depth.Goals as goal

pub false_place-requires : goal.false_place-requires
false_place-requires c = subst (IsFalseOn c.args.store.now.trail.steps) (sym c.literal-item.is) (c.requires c.loop-literal.literal-index c.literal-item.result (omega arith))
