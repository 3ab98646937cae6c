use Rattle.std.proofs.Common.{subst}
use Rattle.std.specs.Prelude.{Contains}
use Rattle.atom_form.specs.Compact.{atom_of}
use Rattle.atom_form.specs.AtomTableNumbers.{IsAt}
use Rattle.atom_form.specs.AtomNumbersAtoms.{Atoms}
use Rattle.atom_form.proofs.Tables.{no_core, core_found}
use Rattle.atom_form.proofs.atom_numbers_table.AtomNumbers.find.Goals as goal

pub returns-in_err-place-clause-none : goal.returns-in_err-place-clause-none
returns-in_err-place-clause-none c =
    let s = c.self.inside in
    rw c.from_residual.ensures
    (subst (λ (a : Atoms). Contains a.atoms (atom_of c.args.atom) → ⊥) c.self.view_is
    (no_core s.core s.bounds s.sums s.entries.items s.core_numbers.items s.bound_numbers.items c.self.invariant c.args.atom c.in_err-place.ensures.none))

pub returns-clause-some : goal.returns-clause-some
returns-clause-some c =
    let s = c.self.inside in
    subst (λ (a : Atoms). IsAt a.atoms c.index.result.now (atom_of c.args.atom)) c.self.view_is
    (core_found s.core s.bounds s.sums s.entries.items s.core_numbers.items s.bound_numbers.items c.self.invariant c.args.atom c.in_ok-place.place c.index.result.now c.in_ok-place.ensures.some c.index.ensures)
