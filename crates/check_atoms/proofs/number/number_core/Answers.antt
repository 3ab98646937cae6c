use Rattle.atom_form.specs.Compact.{atom_of}
use Rattle.check_atoms.proofs.Adding.{adds_one, core_is_normal}
use Rattle.check_atoms.proofs.number.number_core.Goals as goal

pub returns-clause-ok : goal.returns-clause-ok
returns-clause-ok c = λ count.
    adds_one count c.args.atoms.now.atoms c.number.new.self.atoms (atom_of c.args.atom) c.in_ok-_number._number (core_is_normal count c.args.atom) c.in_ok-_number.ensures.ok
