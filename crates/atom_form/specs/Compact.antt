-- Atoms as a table keeps them, and a hash of them. No public contract speaks of the hash.
use Rattle.std.specs.Prelude.{ℕ, ◌/◌, ◌^◌}
use Rattle.smt_meaning.specs.declared.clauses.Atom.{Atom}
use Rattle.smt_meaning.specs.declared.clauses.Atom.TheVariants.{Truth as TruthAtom, Same as SameAtom}
use Rattle.term_store.specs.Hash.{mixed}
use Rattle.atom_form.specs.declared.compact.CompactAtom.{CompactAtom}
use Rattle.atom_form.specs.declared.compact.CompactAtom.TheVariants.{Truth, Same}

abbrev pub atom_of : CompactAtom → Atom
atom_of (Truth p) = TruthAtom p
atom_of (Same p q) = SameAtom p q

abbrev pub atom_state : CompactAtom → ℕ
atom_state (Truth p) = mixed 1 p
atom_state (Same p q) = mixed (mixed 2 p) q

-- the upper half of the last state
unfoldable pub atom_hash : CompactAtom → ℕ
atom_hash a = atom_state a / 2 ^ 32
