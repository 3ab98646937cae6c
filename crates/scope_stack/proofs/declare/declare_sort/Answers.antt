use Rattle.std.proofs.Common.{◌≡◌, refl, sym, ◌∙◌, pos}
use Rattle.std.specs.Int.{w128}
use Rattle.std.proofs.lemmas.Int.{to_z-of_z}
use Rattle.smt_meaning.specs.Term.{int_eq}
use Rattle.scope_stack.proofs.DeclareSteps.{nonzero_gives}
use Rattle.scope_stack.proofs.declare.declare_sort.Goals as goal

pub returns-else-is_zero : goal.returns-else-is_zero
returns-else-is_zero c =
    let test : c.is_zero.result ≡ int_eq c.args.arity (pos 0) = rw (to_z-of_z w128 c.args.arity c.ranges.arity) at c.is_zero.ensures in
    record { gives = nonzero_gives c.args.name.now c.args.arity c.args.table.now (sym test ∙ c.if-is_zero.false); same = refl }
