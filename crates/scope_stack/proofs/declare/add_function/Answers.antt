use Rattle.std.proofs.Common.{◌≡◌, ◌<◌, None, arith, refl}
use Rattle.smt_meaning.specs.Sorts.{most_symbols}
use Rattle.smt_meaning.specs.StackCommand.{function_declaration}
use Rattle.scope_stack.proofs.DeclareSteps.{declare_added, add_cause, no_error}
use Rattle.scope_stack.proofs.declare.add_function.Goals as goal

pub returns-in-Ok-clause-added : goal.returns-in-Ok-clause-added
returns-in-Ok-clause-added c =
    let no : c.args.table.now.given ≡ most_symbols → ⊥ = λ e. no_error _ _ (c.in-Ok.ensures.full.1 e) in
    let lt : c.args.table.now.given < most_symbols = omega (arith, no, c.ids.ensures.table.few_ids) in
    declare_added (λ id. function_declaration id c.args.name.now c.args.rank.arguments c.args.rank.result None) c.args.global c.args.table.now _ c.ids.ensures.table refl lt c.in-Ok.ensures.ok

pub returns-in-Err-clause-causes : goal.returns-in-Err-clause-causes
returns-in-Err-clause-causes c = λ ts.
    add_cause (λ id. function_declaration id c.args.name.now c.args.rank.arguments c.args.rank.result None) c.args.table.now ts c.in-Err.error c.add_error.result c.add_error.ensures c.in-Err.ensures.full.0
