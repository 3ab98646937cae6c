-- Atoms of all kinds by number.
use Rattle.std.specs.Prelude.{◌≡◌, ◌⊎◌, ℕ, ◌<◌, List, [], ◌∷◌, ◌++◌, length, Contains, slice_index_or, refl}
use Rattle.std.specs.Coded.{Coded, code_by, coded×, coded_list}
use Rattle.smt_meaning.specs.declared.clauses.Summand.{Summand}
use Rattle.smt_meaning.specs.contracts.clauses.Summand as summand_type
use Rattle.smt_meaning.specs.declared.clauses.Atom.{Atom}
use Rattle.smt_meaning.specs.declared.clauses.Atom.TheVariants.{Truth as TruthAtom, Same as SameAtom, AtMost}
use Rattle.smt_meaning.specs.contracts.clauses.Atom as atom_type
use Rattle.atom_form.specs.AtomTableNumbers.{IsAt}
use Rattle.atom_form.specs.declared.atom.NumberedAtom.{NumberedAtom}
use Rattle.atom_form.specs.declared.atom.NumberedAtom.TheVariants.{Truth, Same, Bound}

-- the atoms by their numbers, and the sums of their bounds by theirs
pub record Atoms : Type 0 where
  pub atoms : List Atom
  pub sums : List (List Summand)

abbrev pub atoms_code : Coded Atoms
atoms_code =
    code_by (List Atom × List (List Summand)) (coded× (coded_list atom_type.the_row.coded) (coded_list (coded_list summand_type.the_row.coded)))
    (λ (a : Atoms). (a.atoms, a.sums)) (λ p. record { atoms = p.0; sums = p.1 }) (λ _. refl)

-- the atom that a numbered one stands for
abbrev pub atom_in : List (List Summand) → NumberedAtom → Atom
atom_in sums (Truth p) = TruthAtom p
atom_in sums (Same p q) = SameAtom p q
atom_in sums (Bound b) = AtMost (slice_index_or sums b.sum []) b.threshold

-- a bound's sum has a number
abbrev pub HasSum : List (List Summand) → NumberedAtom → Type 0
HasSum sums (Truth p) = Unit {0}
HasSum sums (Same p q) = Unit {0}
HasSum sums (Bound b) = b.sum < length sums

-- the list goes on with this, or is as it was
abbrev pub GoesOn : {A : Type 0} → List A → List A → A → Type 0
GoesOn old new x = (new ≡ old) ⊎ (new ≡ old ++ x ∷ [])

-- the atom has this number in the new list, which goes on only where it had none
pub record Numbers (old new : List Atom) (a : Atom) (k : ℕ) : Type 0 where
  pub at : IsAt new k a
  pub others : (new ≡ old) ⊎ ((new ≡ old ++ a ∷ []) × (Contains old a → ⊥))
