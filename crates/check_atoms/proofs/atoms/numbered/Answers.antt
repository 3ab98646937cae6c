use Rattle.std.proofs.Common.{List, Bool, length, subst, sym}
use Rattle.check_atoms.proofs.StackAtomsPlaces.{stack_parts}
use Rattle.check_atoms.specs.OfStack.{AreCheckAtoms, AreAtomsBelow}
use Rattle.check_atoms.proofs.Stacks.{all_atoms}
use Rattle.check_atoms.proofs.atoms.numbered.Goals as goal

pub returns-clause-parts : goal.returns-clause-parts
returns-clause-parts c = stack_parts c.args.stack.now c.assertions.result.now c.in_ok-marks.marks.items c.laws.ensures.in_order c.assertions.ensures c.in_ok-marks.ensures

pub chords-requires-clause-atoms : goal.chords-requires-clause-atoms
chords-requires-clause-atoms c =
    let s = c.args.stack.now in
    let atoms = c.number_parts.new.atoms.atoms in
    subst (λ (bs : List Bool). AreCheckAtoms s bs atoms) (sym c.deref-2.ensures.value)
    (all_atoms s c.in_ok-marks.marks.items c.laws.ensures c.in_ok-marks.ensures.parts c.symbols_are_declared.ensures atoms
    (subst (λ (bs : List Bool). AreAtomsBelow s bs (length s.trees) atoms) c.deref.ensures.value c.in_ok-number_parts.ensures.ok) c.are_few.ensures c.are_apart.ensures)
