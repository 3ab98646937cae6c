-- Atoms that get numbers during the search.
use Rattle.std.specs.Prelude.{ℕ, ◌≤◌, Bool, List, length, take, All, Option, Some, None}
use Rattle.fraction128.specs.Whole.{InRange}
use Rattle.smt_meaning.specs.declared.clauses.Atom.{Atom}
use Rattle.smt_meaning.specs.declared.clauses.Atom.TheVariants.{Same, AtMost}
use Rattle.smt_meaning.specs.StackCommand.{Stack}
use Rattle.search_port.specs.Valid.{IsOf}
use Rattle.smt_laws.specs.Flat.{flat}
use Rattle.atom_form.specs.AtomNumbersAtoms.{Atoms}
use Rattle.bound_log.specs.Growth.{IsProper}
use Rattle.exact_model.specs.Atoms.{HasMarkedPlaces}
use Rattle.closure_log.specs.Seen.{IsOfTerms, IsSetting}
use Rattle.theory_combine.specs.declared.held.Held.{Held}
use Rattle.theory_combine.specs.declared.numbering.NewAtom.{NewAtom}
use Rattle.theory_combine.specs.declared.numbering.NewAtom.TheVariants.{Equality, Bound}
use Rattle.theory_combine.specs.Columns.{HaveVariables}
use Rattle.theory_combine.specs.Held.{IsHeld}

-- the atoms that are told of: all, or those that had numbers when the search stopped
abbrev pub table_of : Option ℕ → List Atom → List Atom
table_of None atoms = atoms
table_of (Some n) atoms = take n atoms

-- the atoms are of the stack, over marked terms, what is held is of them, and each marked leaf has a variable
pub record IsWhole (s : Stack) (marks : List Bool) (atoms : Atoms) (h : Held) : Type 0 where
  pub setting : IsSetting s atoms.atoms
  pub marked : All (HasMarkedPlaces marks) atoms.atoms
  pub held : IsHeld s atoms.atoms h
  pub variables : HaveVariables s marks h.bounds

-- where the search has stopped, nothing more is held
abbrev pub IsNumbered : Stack → List Bool → Option ℕ → Atoms → Held → Type 0
IsNumbered s marks None atoms h = IsWhole s marks atoms h
IsNumbered s marks (Some n) atoms h = n ≤ length atoms.atoms

abbrev pub atom_of : NewAtom → Atom
atom_of (Equality p) = Same p.left p.right
atom_of (Bound b) = AtMost b.sum.items b.threshold

abbrev pub IsProperAtom : NewAtom → Type 0
IsProperAtom (Equality p) = Unit {0}
IsProperAtom (Bound b) = All IsProper b.sum.items × InRange b.threshold

-- the atom is one of the stack's terms, and over marked ones
pub record IsNew (s : Stack) (marks : List Bool) (a : NewAtom) : Type 0 where
  pub terms : IsOfTerms s (atom_of a)
  pub declared : IsOf s.trees (flat s.frames) (atom_of a)
  pub marked : HasMarkedPlaces marks (atom_of a)
  pub proper : IsProperAtom a
