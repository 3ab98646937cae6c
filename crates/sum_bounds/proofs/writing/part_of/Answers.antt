use Rattle.std.proofs.Common.{◌≡◌, ℕ, ◌<◌, ℤ, length, sym, ap₂, subst, rules, SFits, Option}
use Rattle.std.proofs.lemmas.Int.{to_z-of_z}
use Rattle.std.specs.Int.{w128}
use Rattle.std.specs.Prelude.{IfSome}
use Rattle.fraction128.specs.Grid.{leaf}
use Rattle.tableau.specs.declared.sum.Part.{Part}
use Rattle.simplex_steps.specs.State.{column_in}
use Rattle.simplex.proofs.Leaves.{leaf_found}
use Rattle.sum_bounds.proofs.writing.part_of.Goals as goal

pub returns : goal.returns
returns c =
    let z = c.args.summand.coefficient in
    let fits : SFits w128 z = search rules in
    let cs = c.args.simplex.now.columns in
    let i = c.unwrap.result in
    let known : i < length cs = subst (λ (o : Option ℕ). IfSome o (λ n. n < length cs)) c.unwrap.ensures c.find.ensures.known in
    let is : (column_in cs i).sum ≡ leaf c.args.summand.term = subst (λ (o : Option ℕ). IfSome o (λ n. (column_in cs n).sum ≡ leaf c.args.summand.term)) c.unwrap.ensures c.find.ensures.some in
    ap₂ (λ (x : ℤ) (n : ℕ). let p : Part = record { coefficient = x; variable = n } in p) (to_z-of_z w128 z fits) (sym (leaf_found cs c.args.summand.term i c.requires.apart known is))
