use Rattle.std.proofs.Common.{refl, length}
use Rattle.smt_meaning.specs.declared.commands.Command.TheVariants.{DeclareFun}
use Rattle.smt_meaning.specs.StackCommand.{declare_function}
use Rattle.scope_stack.proofs.GainLemmas.{declared_carries, declared_keeps}
use Rattle.scope_stack.proofs.FactLemmas.{declared_facts}
use Rattle.scope_stack.proofs.LevelSteps.{declared_levels}
use Rattle.scope_stack.proofs.stack.ScopeStack.declare_function.Goals as goal

pub invariant_of-self : goal.invariant_of-self
invariant_of-self c =
    record {
      stack =
          declared_keeps c.self.inside.global (DeclareFun c.args.name.now c.args.arguments.now c.args.sort.now) (declare_function c.args.name.now c.args.arguments.now c.args.sort.now) refl c.self.inside.table
          c.declare_function.new.table c.self.inside.terms c.self.inside.asserted c.declare_function.result c.self.invariant.stack c.declare_function.ensures;
      facts =
          declared_facts (declare_function c.args.name.now c.args.arguments.now c.args.sort.now) c.self.inside.global c.self.inside.table c.declare_function.new.table c.declare_function.result c.self.inside.terms.trees (length c.self.inside.terms.trees) c.self.inside.facts.sorts.items c.declare_function.ensures c.self.invariant.facts;
      levels = declared_levels (declare_function c.args.name.now c.args.arguments.now c.args.sort.now) c.self.inside.global c.self.inside.table c.declare_function.new.table c.declare_function.result c.self.inside.terms.trees (length c.self.inside.terms.trees) c.self.inside.facts.levels.items c.declare_function.ensures c.self.invariant.facts.given c.self.invariant.levels;
    }

pub returns : goal.returns
returns c =
    rw (← c.self.view_is)
    (declared_carries c.self.inside.global (declare_function c.args.name.now c.args.arguments.now c.args.sort.now) c.self.inside.table c.declare_function.new.table c.self.inside.terms c.self.inside.asserted
    c.declare_function.result c.self.invariant.stack c.declare_function.ensures)
