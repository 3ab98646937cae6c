use Rattle.std.proofs.Common.{◌≡◌, List, subst, ap}
use Rattle.std.specs.Prelude.{Contains, IfNone}
use Rattle.smt_meaning.specs.declared.clauses.Summand.{Summand}
use Rattle.atom_form.specs.Sums.{sums_in}
use Rattle.atom_form.proofs.sum_table.SumTable.find.Goals as goal

pub returns-clause-none : goal.returns-clause-none
returns-clause-none c =
    let summands = ap (λ x. sums_in x c.deref-2.result.now) c.deref.ensures.value in
    let spans = ap (sums_in c.self.inside.summands.items) c.deref-2.ensures.value in
    let view = c.self.view_is in
    let same : sums_in c.deref.result.now c.deref-2.result.now ≡ c.args.self.now = cc in
    subst (λ (xs : List (List Summand)). IfNone c.find_number.result (Contains xs c.args.sum.now → ⊥)) same c.find_number.ensures.none
