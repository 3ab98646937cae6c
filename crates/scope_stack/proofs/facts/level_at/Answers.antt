use Rattle.std.proofs.Common.{subst, sym}
use Rattle.smt_meaning.specs.Term.{Tree}
use Rattle.scope_stack.specs.Facts.{IsTermLevel, greatest_of}
use Rattle.scope_stack.proofs.LevelSteps.{level_of}
use Rattle.scope_stack.proofs.facts.level_at.Goals as goal

pub returns : goal.returns
returns c =
    let is = c.node-node.result.arguments.now in
    rw c.greatest.ensures
    (subst (λ (u : Tree). IsTermLevel c.args.table.now u (greatest_of c.args.levels.now is c.head_level-level.result)) (sym c.node-node.ensures.tree)
    (level_of c.args.table.now c.args.terms.now.trees c.args.id c.args.levels.now is c.requires.levels c.node-node.ensures.earlier c.node-node.result.head c.head_level-level.result c.head_level-level.ensures))
