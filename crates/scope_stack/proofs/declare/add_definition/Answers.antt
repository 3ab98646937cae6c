use Rattle.std.proofs.Common.{◌≡◌, ◌<◌, ◌+◌, Some, arith, ap, refl, ◌∙◌}
use Rattle.smt_meaning.specs.Sorts.{most_symbols}
use Rattle.smt_meaning.specs.StackCommand.{function_declaration}
use Rattle.smt_sorts.specs.Names.{Names, signature}
use Rattle.scope_stack.proofs.DeclareSteps.{declare_added, add_cause, no_error}
use Rattle.scope_stack.proofs.KeptSteps.{kept_of}
use Rattle.scope_stack.proofs.declare.add_definition.Goals as goal

pub keep-requires-clause-given : goal.keep-requires-clause-given
keep-requires-clause-given c =
    let more' : c.add_function.new.self.given ≡ c.args.table.now.given + 1 = ap (λ (t : Names). t.given) c.in-Ok.ensures.ok in
    omega (arith, more', c.in-Ok.ensures.id)

pub keep-requires-clause-of : goal.keep-requires-clause-of
keep-requires-clause-of c =
    kept_of c.args.global c.args.table.now.levels (signature c.add_function.new.self) (function_declaration c.args.table.now.given c.args.name.now c.args.rank.arguments c.args.rank.result (Some c.args.judged.body)) c.in-Ok.id c.args.table.now.given c.args.judged.body c.args.judged.workshop c.ids.ensures.table.ids_given
    c.in-Ok.ensures.id refl c.requires.workshop (ap signature c.in-Ok.ensures.ok)

pub returns-in-Ok-clause-added : goal.returns-in-Ok-clause-added
returns-in-Ok-clause-added c =
    let no : c.args.table.now.given ≡ most_symbols → ⊥ = λ e. no_error _ _ (c.in-Ok.ensures.full.1 e) in
    let lt : c.args.table.now.given < most_symbols = omega (arith, no, c.ids.ensures.table.few_ids) in
    declare_added (λ id. function_declaration id c.args.name.now c.args.rank.arguments c.args.rank.result (Some c.args.judged.body)) c.args.global c.args.table.now _ c.ids.ensures.table refl lt (c.keep.ensures ∙ c.in-Ok.ensures.ok)

pub returns-in-Err-clause-causes : goal.returns-in-Err-clause-causes
returns-in-Err-clause-causes c = λ ts.
    add_cause (λ id. function_declaration id c.args.name.now c.args.rank.arguments c.args.rank.result (Some c.args.judged.body)) c.args.table.now ts c.in-Err.error c.add_error.result c.add_error.ensures c.in-Err.ensures.full.0
