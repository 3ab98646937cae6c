use Rattle.std.proofs.Common.{refl, ap, ◌∙◌}
use Rattle.smt_sorts.proofs.PlaceLemmas.{function_by_id, function_of}
use Rattle.smt_sorts.specs.Names.{signature}
use Rattle.smt_sorts.proofs.table.Table.function_with_id.Goals as goal

pub returns-in_err-declaration-clause-none : goal.returns-in_err-declaration-clause-none
returns-in_err-declaration-clause-none c =
    rw c.from_residual.ensures (function_by_id c.args.id (signature c.args.self.now) c.in_err-declaration.ensures.apart ∙ ap function_of c.in_err-declaration.ensures.none)

pub returns-then-is_sort-clause-none : goal.returns-then-is_sort-clause-none
returns-then-is_sort-clause-none c =
    function_by_id c.args.id (signature c.args.self.now) c.in_ok-declaration.ensures.apart ∙ ap function_of c.in_ok-declaration.ensures.some ∙ rw (← c.is_sort.ensures, c.if-is_sort.true) refl

pub returns-else-is_sort-clause-some : goal.returns-else-is_sort-clause-some
returns-else-is_sort-clause-some c =
    function_by_id c.args.id (signature c.args.self.now) c.in_ok-declaration.ensures.apart ∙ ap function_of c.in_ok-declaration.ensures.some ∙ rw (← c.is_sort.ensures, c.if-is_sort.false) refl
