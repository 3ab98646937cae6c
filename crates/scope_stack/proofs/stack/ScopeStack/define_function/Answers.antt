use Rattle.std.proofs.Common.{refl, length}
use Rattle.smt_meaning.specs.declared.commands.Command.TheVariants.{DefineFun}
use Rattle.smt_meaning.specs.StackCommand.{define_function}
use Rattle.scope_stack.proofs.GainLemmas.{declared_carries, declared_keeps}
use Rattle.scope_stack.proofs.FactLemmas.{declared_facts}
use Rattle.scope_stack.proofs.LevelSteps.{declared_levels}
use Rattle.scope_stack.proofs.stack.ScopeStack.define_function.Goals as goal

pub invariant_of-self : goal.invariant_of-self
invariant_of-self c =
    record {
      stack =
          declared_keeps c.self.inside.global (DefineFun c.args.name.now c.args.parameters.now c.args.sort.now c.args.body.now) (define_function c.args.name.now c.args.parameters.now c.args.sort.now c.args.body.now) refl
          c.self.inside.table c.define_function.new.table c.self.inside.terms c.self.inside.asserted c.define_function.result c.self.invariant.stack c.define_function.ensures;
      facts =
          declared_facts (define_function c.args.name.now c.args.parameters.now c.args.sort.now c.args.body.now) c.self.inside.global c.self.inside.table c.define_function.new.table c.define_function.result c.self.inside.terms.trees (length c.self.inside.terms.trees) c.self.inside.facts.sorts.items c.define_function.ensures c.self.invariant.facts;
      levels = declared_levels (define_function c.args.name.now c.args.parameters.now c.args.sort.now c.args.body.now) c.self.inside.global c.self.inside.table c.define_function.new.table c.define_function.result c.self.inside.terms.trees (length c.self.inside.terms.trees) c.self.inside.facts.levels.items c.define_function.ensures c.self.invariant.facts.given c.self.invariant.levels;
    }

pub returns : goal.returns
returns c =
    rw (← c.self.view_is)
    (declared_carries c.self.inside.global (define_function c.args.name.now c.args.parameters.now c.args.sort.now c.args.body.now) c.self.inside.table c.define_function.new.table c.self.inside.terms c.self.inside.asserted
    c.define_function.result c.self.invariant.stack c.define_function.ensures)
