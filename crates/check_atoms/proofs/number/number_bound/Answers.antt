use Rattle.std.proofs.Common.{ap, subst, ◌∙◌, length, refl}
use Rattle.smt_meaning.specs.declared.clauses.Atom.TheVariants.{AtMost}
use Rattle.fraction128.proofs.Integers.{same_bits}
use Rattle.atom_form.specs.AtomNumbersAtoms.{Numbers}
use Rattle.check_atoms.proofs.Adding.{adds_one, normal_bound}
use Rattle.check_atoms.proofs.number.number_bound.Goals as goal

pub returns-clause-ok : goal.returns-clause-ok
returns-clause-ok c = λ trees atom b.
    let old = c.args.atoms.now.atoms in
    let new = c.number_bound.new.self.atoms in
    let a = ap (λ k. AtMost c.args.sum.now k) (same_bits c.args.threshold b.in_range) ∙ b.atom in
    adds_one (length trees) old new atom c.in_ok-_number._number (normal_bound (length trees) trees atom c.args.sum.now c.args.threshold refl b)
    (subst (λ x. Numbers old new x c.in_ok-_number._number) a c.in_ok-_number.ensures.ok)
