use Rattle.std.proofs.Common.{subst}
use Rattle.std.specs.Prelude.{Contains}
use Rattle.smt_meaning.specs.declared.clauses.Atom.TheVariants.{AtMost}
use Rattle.atom_form.specs.declared.bound.SumBound.{SumBound}
use Rattle.atom_form.specs.AtomTableNumbers.{IsAt}
use Rattle.atom_form.specs.AtomNumbersAtoms.{Atoms}
use Rattle.atom_form.specs.AtomNumbers.{IsKeyAt}
use Rattle.atom_form.proofs.Keys.{passed_bound}
use Rattle.atom_form.proofs.Tables.{no_sum, no_bound, bound_found}
use Rattle.atom_form.proofs.atom_numbers_table.AtomNumbers.find_bound.Goals as goal

pub returns-in_err-number-clause-none : goal.returns-in_err-number-clause-none
returns-in_err-number-clause-none c =
    let s = c.self.inside in
    rw c.from_residual.ensures
    (subst (λ (a : Atoms). Contains a.atoms (AtMost c.args.sum.now c.args.threshold) → ⊥) c.self.view_is
    (no_sum s.core s.bounds s.sums s.entries.items s.core_numbers.items s.bound_numbers.items c.self.invariant c.args.sum.now c.args.threshold c.in_err-number.ensures.none))

pub returns-in_err-place-clause-none : goal.returns-in_err-place-clause-none
returns-in_err-place-clause-none c =
    let s = c.self.inside in
    rw c.from_residual-in_err-place.ensures
    (subst (λ (a : Atoms). Contains a.atoms (AtMost c.args.sum.now c.args.threshold) → ⊥) c.self.view_is
    (no_bound s.core s.bounds s.sums s.entries.items s.core_numbers.items s.bound_numbers.items c.self.invariant c.in_ok-number.number c.args.sum.now c.args.threshold c.are_apart.ensures c.in_ok-number.ensures.some
    (subst (λ (x : SumBound). Contains s.bounds x → ⊥) (passed_bound c.bound_of.result c.in_ok-number.number c.args.threshold c.ranges.threshold c.bound_of.ensures) c.in_err-place.ensures.none)))

pub returns-clause-some : goal.returns-clause-some
returns-clause-some c =
    let s = c.self.inside in
    let b : SumBound = record { sum = c.in_ok-number.number; threshold = c.args.threshold } in
    subst (λ (a : Atoms). IsAt a.atoms c.index.result.now (AtMost c.args.sum.now c.args.threshold)) c.self.view_is
    (bound_found s.core s.bounds s.sums s.entries.items s.core_numbers.items s.bound_numbers.items c.self.invariant b c.args.sum.now c.are_apart.ensures c.in_ok-number.ensures.some c.in_ok-place.place c.index.result.now
    (subst (λ (x : SumBound). IsKeyAt s.bounds c.in_ok-place.place x) (passed_bound c.bound_of.result c.in_ok-number.number c.args.threshold c.ranges.threshold c.bound_of.ensures) c.in_ok-place.ensures.some) c.index.ensures)
