use Rattle.std.proofs.Common.{refl}
use Rattle.scope_stack.proofs.DeclareSteps.{parameters_give}
use Rattle.scope_stack.proofs.declare.define_sort.Goals as goal

pub returns-in-Some : goal.returns-in-Some
returns-in-Some c =
    rw c.in-Some.ensures.cases.0 (record { gives = parameters_give c.args.name.now c.in-Some.field-0.0.now c.in-Some.field-0.1.now c.args.sort.now c.args.table.now; same = refl })
