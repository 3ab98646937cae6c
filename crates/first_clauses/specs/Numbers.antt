-- The numbers of atoms.
use Rattle.std.specs.Prelude.{ℕ, List, [], ◌∷◌}
use Rattle.smt_meaning.specs.declared.clauses.Atom.{Atom}
use Rattle.atom_form.specs.AtomTableNumbers.{IsAt}

-- the numbers of these atoms
abbrev pub AreNumbers : List Atom → List Atom → List ℕ → Type 0
AreNumbers table [] [] = Unit {0}
AreNumbers table (a ∷ atoms) (n ∷ ns) = IsAt table n a × AreNumbers table atoms ns
AreNumbers table [] (n ∷ ns) = ⊥
AreNumbers table (a ∷ atoms) [] = ⊥
