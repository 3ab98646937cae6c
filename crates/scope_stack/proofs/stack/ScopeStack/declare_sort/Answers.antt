use Rattle.std.proofs.Common.{refl, length}
use Rattle.std.specs.Int.{w128}
use Rattle.std.proofs.lemmas.Int.{to_z-of_z}
use Rattle.smt_meaning.specs.declared.commands.Command.TheVariants.{DeclareSort}
use Rattle.smt_meaning.specs.StackCommand.{declare_sort}
use Rattle.scope_stack.specs.Judged.{Declares}
use Rattle.scope_stack.proofs.GainLemmas.{declared_carries, declared_keeps}
use Rattle.scope_stack.proofs.FactLemmas.{declared_facts}
use Rattle.scope_stack.proofs.LevelSteps.{declared_levels}
use Rattle.scope_stack.proofs.stack.ScopeStack.declare_sort.Goals as goal

pub invariant_of-self : goal.invariant_of-self
invariant_of-self c =
    let d : Declares (declare_sort c.args.name.now c.args.arity) c.self.inside.global c.self.inside.table c.declare_sort.result c.declare_sort.new.table = rw (to_z-of_z w128 c.args.arity c.ranges.arity) at c.declare_sort.ensures in
    record {
      stack =
          declared_keeps c.self.inside.global (DeclareSort c.args.name.now c.args.arity) (declare_sort c.args.name.now c.args.arity) refl c.self.inside.table c.declare_sort.new.table c.self.inside.terms c.self.inside.asserted
          c.declare_sort.result c.self.invariant.stack d;
      facts =
          declared_facts (declare_sort c.args.name.now c.args.arity) c.self.inside.global c.self.inside.table c.declare_sort.new.table c.declare_sort.result c.self.inside.terms.trees (length c.self.inside.terms.trees) c.self.inside.facts.sorts.items d c.self.invariant.facts;
      levels = declared_levels (declare_sort c.args.name.now c.args.arity) c.self.inside.global c.self.inside.table c.declare_sort.new.table c.declare_sort.result c.self.inside.terms.trees (length c.self.inside.terms.trees) c.self.inside.facts.levels.items d c.self.invariant.facts.given c.self.invariant.levels;
    }

pub returns : goal.returns
returns c =
    let d : Declares (declare_sort c.args.name.now c.args.arity) c.self.inside.global c.self.inside.table c.declare_sort.result c.declare_sort.new.table = rw (to_z-of_z w128 c.args.arity c.ranges.arity) at c.declare_sort.ensures in
    rw (← c.self.view_is)
    (declared_carries c.self.inside.global (declare_sort c.args.name.now c.args.arity) c.self.inside.table c.declare_sort.new.table c.self.inside.terms c.self.inside.asserted c.declare_sort.result c.self.invariant.stack d)
