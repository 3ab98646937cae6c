use Rattle.std.proofs.Common.{◌≡◌, ◌-◌, length, arith}
use Rattle.smt_meaning.specs.Stack.{depth}
use Rattle.scope_stack.specs.Inside.{stack_by}
use Rattle.scope_stack.proofs.StackLemmas.{depth-stack}
use Rattle.scope_stack.proofs.stack.ScopeStack.depth.Goals as goal

pub returns : goal.returns
returns c =
    let d : depth (stack_by c.self.inside.global c.self.inside.table c.self.inside.terms.trees c.self.inside.asserted).frames ≡ length c.self.inside.table.levels - 1 =
    depth-stack c.self.inside.table c.self.inside.terms.trees c.self.inside.asserted in
    rw (← c.self.view_is) (omega (arith, d, c.depth.ensures, c.self.invariant.stack.as_many, c.self.invariant.stack.few))
