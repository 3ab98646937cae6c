use Rattle.std.proofs.Common.{refl, length}
use Rattle.smt_meaning.specs.declared.commands.Command.TheVariants.{DefineSort}
use Rattle.smt_meaning.specs.StackCommand.{define_sort}
use Rattle.scope_stack.proofs.GainLemmas.{declared_carries, declared_keeps}
use Rattle.scope_stack.proofs.FactLemmas.{declared_facts}
use Rattle.scope_stack.proofs.LevelSteps.{declared_levels}
use Rattle.scope_stack.proofs.stack.ScopeStack.define_sort.Goals as goal

pub invariant_of-self : goal.invariant_of-self
invariant_of-self c =
    record {
      stack =
          declared_keeps c.self.inside.global (DefineSort c.args.name.now c.args.parameters.now c.args.sort.now) (define_sort c.args.name.now c.args.parameters.now c.args.sort.now) refl c.self.inside.table c.define_sort.new.table
          c.self.inside.terms c.self.inside.asserted c.define_sort.result c.self.invariant.stack c.define_sort.ensures;
      facts =
          declared_facts (define_sort c.args.name.now c.args.parameters.now c.args.sort.now) c.self.inside.global c.self.inside.table c.define_sort.new.table c.define_sort.result c.self.inside.terms.trees (length c.self.inside.terms.trees) c.self.inside.facts.sorts.items c.define_sort.ensures c.self.invariant.facts;
      levels = declared_levels (define_sort c.args.name.now c.args.parameters.now c.args.sort.now) c.self.inside.global c.self.inside.table c.define_sort.new.table c.define_sort.result c.self.inside.terms.trees (length c.self.inside.terms.trees) c.self.inside.facts.levels.items c.define_sort.ensures c.self.invariant.facts.given c.self.invariant.levels;
    }

pub returns : goal.returns
returns c =
    rw (← c.self.view_is)
    (declared_carries c.self.inside.global (define_sort c.args.name.now c.args.parameters.now c.args.sort.now) c.self.inside.table c.define_sort.new.table c.self.inside.terms c.self.inside.asserted c.define_sort.result
    c.self.invariant.stack c.define_sort.ensures)
