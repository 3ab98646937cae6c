use Rattle.std.proofs.Common.{map, subst}
use Rattle.std.proofs.lemmas.Result.{IfOk-weaker}
use Rattle.atom_form.specs.Compact.{atom_of}
use Rattle.atom_form.specs.AtomNumbersAtoms.{Atoms, atom_in, Numbers}
use Rattle.atom_form.proofs.Results.{by_result}
use Rattle.atom_form.proofs.Tables.{core_unchanged, core_numbered, core_number}
use Rattle.atom_form.proofs.atom_numbers_table.AtomNumbers.number.Goals as goal

pub invariant_of-self : goal.invariant_of-self
invariant_of-self c =
    let s = c.self.inside in
    let n = c.number_core.new in
    by_result c.number_core.result _ _ _ c.number_core.ensures.ok c.number_core.ensures.err
    (λ k h. core_numbered s.core s.bounds s.sums s.entries.items s.core_numbers.items s.bound_numbers.items c.self.invariant n.core n.numbers.items n.entries.items c.args.atom k h)
    (λ u. core_unchanged s.core s.bounds s.sums s.entries.items s.core_numbers.items s.bound_numbers.items c.self.invariant n.core n.numbers.items n.entries.items u)

pub returns-clause-ok : goal.returns-clause-ok
returns-clause-ok c =
    let s = c.self.inside in
    let n = c.number_core.new in
    IfOk-weaker c.number_core.result _ _
    (λ k h. subst (λ (a : Atoms). Numbers a.atoms (map (atom_in s.sums) n.entries.items) (atom_of c.args.atom) k) c.self.view_is
    (core_number s.core s.bounds s.sums s.entries.items s.core_numbers.items s.bound_numbers.items c.self.invariant n.core n.numbers.items n.entries.items c.args.atom k h))
    c.number_core.ensures.ok
