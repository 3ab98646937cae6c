use Rattle.std.proofs.Common.{sym, subst}
use Rattle.smt_meaning.specs.StackCommand.{define_function}
use Rattle.smt_sorts.specs.Names.{Names, signature}
use Rattle.smt_sorts.specs.Workshop.{IsOfAny}
use Rattle.scope_stack.specs.Judged.{Declares}
use Rattle.scope_stack.proofs.declare.define_function.Goals as goal

pub define_with-requires : goal.define_with-requires
define_with-requires c = subst (λ (t : Names). IsOfAny (signature t) c.take_kept-kept.result) (sym c.take_kept-kept.ensures.same) c.take_kept-kept.ensures.of

pub returns : goal.returns
returns c = subst (λ (t : Names). Declares (define_function c.args.name.now c.args.parameters.now c.args.sort.now c.args.body.now) c.args.global t c.define_with.result c.define_with.new.table) c.take_kept-kept.ensures.same c.define_with.ensures
