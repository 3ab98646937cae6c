use Rattle.std.proofs.Common.{ap, subst, ◌∙◌, map}
use Rattle.std.proofs.lemmas.Result.{IfOk-weaker, on_err_weaker}
use Rattle.smt_meaning.specs.declared.clauses.Atom.TheVariants.{AtMost}
use Rattle.atom_form.specs.declared.bound.SumBound.{SumBound}
use Rattle.atom_form.specs.declared.atom.NumberedAtom.TheVariants.{Bound}
use Rattle.atom_form.specs.AtomNumbersAtoms.{Atoms, atom_in, Numbers}
use Rattle.atom_form.specs.AtomNumbers.{IsNumberedBy}
use Rattle.atom_form.proofs.Results.{by_result}
use Rattle.atom_form.proofs.Keys.{passed_bound}
use Rattle.atom_form.proofs.Tables.{bounds_unchanged, bound_numbered, bound_number, same_atoms, with_sum}
use Rattle.atom_form.proofs.atom_numbers_table.AtomNumbers.number_bound.Goals as goal

pub invariant_of-self-2 : goal.invariant_of-self-2
invariant_of-self-2 c =
    let s = c.self.inside in
    let n = c.number_bound.new in
    let sums = c.number_sum.new.sums in
    let t = with_sum s.core s.bounds s.sums s.entries.items s.core_numbers.items s.bound_numbers.items c.self.invariant sums c.args.sum.now c.in_ok-place.ensures.more in
    let b : SumBound = record { sum = c.in_ok-place.place; threshold = c.args.threshold } in
    by_result c.number_bound.result _ _ _ c.number_bound.ensures.ok c.number_bound.ensures.err
    (λ k h. bound_numbered s.core s.bounds sums s.entries.items s.core_numbers.items s.bound_numbers.items t b c.args.sum.now c.are_apart.ensures c.in_ok-place.ensures.ok n.bounds n.numbers.items n.entries.items k (subst (λ (x : SumBound). IsNumberedBy s.bounds n.bounds s.bound_numbers.items n.numbers.items s.entries.items n.entries.items x (Bound x) k) (passed_bound c.bound_of.result c.in_ok-place.place c.args.threshold c.ranges.threshold c.bound_of.ensures) h))
    (λ u. bounds_unchanged s.core s.bounds sums s.entries.items s.core_numbers.items s.bound_numbers.items t n.bounds n.numbers.items n.entries.items u)

pub returns-clause-ok : goal.returns-clause-ok
returns-clause-ok c =
    let s = c.self.inside in
    let n = c.number_bound.new in
    let sums = c.number_sum.new.sums in
    let t = with_sum s.core s.bounds s.sums s.entries.items s.core_numbers.items s.bound_numbers.items c.self.invariant sums c.args.sum.now c.in_ok-place.ensures.more in
    let b : SumBound = record { sum = c.in_ok-place.place; threshold = c.args.threshold } in
    let old = same_atoms s.core s.bounds s.sums s.entries.items s.core_numbers.items s.bound_numbers.items c.self.invariant sums c.args.sum.now c.in_ok-place.ensures.more ∙ ap (λ (a : Atoms). a.atoms) c.self.view_is in
    IfOk-weaker c.number_bound.result _ _
    (λ k h. subst (λ xs. Numbers xs (map (atom_in sums) n.entries.items) (AtMost c.args.sum.now c.args.threshold) k) old
    (bound_number s.core s.bounds sums s.entries.items s.core_numbers.items s.bound_numbers.items t b c.args.sum.now c.are_apart.ensures c.in_ok-place.ensures.ok n.bounds n.numbers.items n.entries.items k (subst (λ (x : SumBound). IsNumberedBy s.bounds n.bounds s.bound_numbers.items n.numbers.items s.entries.items n.entries.items x (Bound x) k) (passed_bound c.bound_of.result c.in_ok-place.place c.args.threshold c.ranges.threshold c.bound_of.ensures) h)))
    c.number_bound.ensures.ok

pub returns-clause-err : goal.returns-clause-err
returns-clause-err c =
    let s = c.self.inside in
    let n = c.number_bound.new in
    let sums = c.number_sum.new.sums in
    let old = same_atoms s.core s.bounds s.sums s.entries.items s.core_numbers.items s.bound_numbers.items c.self.invariant sums c.args.sum.now c.in_ok-place.ensures.more ∙ ap (λ (a : Atoms). a.atoms) c.self.view_is in
    on_err_weaker c.number_bound.result (λ u. ap (map (atom_in sums)) u.entries ∙ old) c.number_bound.ensures.err
