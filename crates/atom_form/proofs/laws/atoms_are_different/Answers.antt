use Rattle.atom_form.proofs.AtomLemmas.{atoms_differ}
use Rattle.atom_form.proofs.laws.atoms_are_different.Goals as goal

pub returns : goal.returns
returns c = atoms_differ
