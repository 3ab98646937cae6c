use Rattle.std.proofs.Common.{◌≡◌, List, map, take, length}
use Rattle.smt_meaning.specs.Term.{Tree}
use Rattle.linear_forms.specs.Table.{AreForms}
use Rattle.check_atoms.specs.PartAtoms.{atom_of}
use Rattle.check_atoms.specs.Numbering.{Adds}
use Rattle.check_atoms.proofs.number.number_all.Given as goal

abbrev pub invariant-loop-atom : goal.invariant-loop-atom
invariant-loop-atom l =
    (l.forms ≡ l.fn.forms)
    × ((trees : List Tree) → AreForms trees l.fn.forms → Adds (length trees) l.fn.atoms.atoms (map (atom_of trees) (take l.atom-index l.wanted)) l.atoms.atoms)
