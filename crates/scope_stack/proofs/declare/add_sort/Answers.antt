use Rattle.std.proofs.Common.{◌≡◌, ◌<◌, arith, refl}
use Rattle.smt_meaning.specs.Sorts.{most_symbols}
use Rattle.smt_meaning.specs.StackCommand.{sort_declaration}
use Rattle.smt_sorts.specs.Names.{sort_or_new}
use Rattle.scope_stack.proofs.DeclareSteps.{declare_added, add_cause, no_error}
use Rattle.scope_stack.proofs.declare.add_sort.Goals as goal

pub returns-in-Ok-clause-added : goal.returns-in-Ok-clause-added
returns-in-Ok-clause-added c =
    let no : c.args.table.now.given ≡ most_symbols → ⊥ = λ e. no_error _ _ (c.in-Ok.ensures.full.1 e) in
    let lt : c.args.table.now.given < most_symbols = omega (arith, no, c.ids.ensures.table.few_ids) in
    declare_added (λ id. sort_declaration id c.args.name.now (sort_or_new c.args.sort id)) c.args.global c.args.table.now _ c.ids.ensures.table refl lt c.in-Ok.ensures.ok

pub returns-in-Err-clause-causes : goal.returns-in-Err-clause-causes
returns-in-Err-clause-causes c = λ ts.
    add_cause (λ id. sort_declaration id c.args.name.now (sort_or_new c.args.sort id)) c.args.table.now ts c.in-Err.error c.add_error.result c.add_error.ensures c.in-Err.ensures.full.0
