use Rattle.atom_form.proofs.AtomLemmas.{atoms_keep}
use Rattle.atom_form.proofs.laws.atoms_stay.Goals as goal

pub returns : goal.returns
returns c = atoms_keep
