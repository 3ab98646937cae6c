use Rattle.atom_form.proofs.AtomTableNumbering.{table_apart}
use Rattle.atom_form.proofs.atom_table.are_apart.Goals as goal

pub returns : goal.returns
returns c = table_apart c.args.atoms.now c.args.keys.now c.requires
