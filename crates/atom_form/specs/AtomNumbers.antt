-- How the numbers are kept: truths and equalities in one table, bounds in another, each with its number, and the atom of each number.
use Rattle.std.specs.Prelude.{◌≡◌, ◌⊎◌, ℕ, ◌+◌, ◌<◌, ◌≤◌, ◌^◌, List, [], ◌∷◌, ◌++◌, map, length, All, Contains, slice_index_or}
use Rattle.smt_meaning.specs.declared.clauses.Summand.{Summand}
use Rattle.smt_meaning.specs.declared.clauses.Atom.{Atom}
use Rattle.smt_meaning.specs.declared.clauses.Atom.TheVariants.{Truth as TruthAtom, Same as SameAtom}
use Rattle.atom_form.specs.AtomTableNumbers.{IsAt, AreApart}
use Rattle.atom_form.specs.declared.compact.CompactAtom.{CompactAtom}
use Rattle.atom_form.specs.declared.compact.CompactAtom.TheVariants.{Truth as CompactTruth, Same as CompactSame}
use Rattle.atom_form.specs.declared.bound.SumBound.{SumBound}
use Rattle.atom_form.specs.BoundTableAtoms.{atom_of, HaveSums}
use Rattle.atom_form.specs.declared.atom.NumberedAtom.{NumberedAtom}
use Rattle.atom_form.specs.declared.atom.NumberedAtom.TheVariants.{Truth, Same, Bound}
use Rattle.atom_form.specs.AtomNumbersAtoms.{atom_in}

abbrev pub numbered_of : CompactAtom → NumberedAtom
numbered_of (CompactTruth p) = Truth p
numbered_of (CompactSame p q) = Same p q

-- the atom stands in its table
abbrev pub IsKept : List Atom → List SumBound → NumberedAtom → Type 0
IsKept core bounds (Truth p) = Contains core (TruthAtom p)
IsKept core bounds (Same p q) = Contains core (SameAtom p q)
IsKept core bounds (Bound b) = Contains bounds b

-- the key stands at this place of a table
abbrev pub IsKeyAt : {K : Type 0} → List K → ℕ → K → Type 0
IsKeyAt {K} keys k x = (k < length keys) × ((d : K) → slice_index_or keys k d ≡ x)

-- the atom of each key has the number that stands at its place
pub record AreNumbers {K : Type 0} (atom : K → Atom) (keys : List K) (numbers : List ℕ) (atoms : List Atom) : Type 0 where
  pub size : length numbers ≡ length keys
  pub each : (k : ℕ) (x : K) → IsKeyAt keys k x → IsAt atoms (slice_index_or numbers k 0) (atom x)

abbrev pub as_it_is : Atom → Atom
as_it_is a = a

-- the atoms of both tables have the numbers, none two
pub record IsTable (core : List Atom) (bounds : List SumBound) (sums : List (List Summand)) (entries : List NumberedAtom) (core_numbers bound_numbers : List ℕ) : Type 0 where
  pub few : length entries ≤ 2 ^ 31
  pub size : length entries ≡ length core + length bounds
  pub apart : AreApart (map (atom_in sums) entries)
  pub kept : All (IsKept core bounds) entries
  pub of_core : AreNumbers as_it_is core core_numbers (map (atom_in sums) entries)
  pub of_bounds : AreNumbers (atom_of sums) bounds bound_numbers (map (atom_in sums) entries)
  pub have_sums : HaveSums sums bounds

-- ---- a key more

-- the key is known, with this number
pub record WasKnown {K : Type 0} (keys : List K) (numbers : List ℕ) (x : K) (n : ℕ) : Type 0 where
  pub place : ℕ
  pub at : IsKeyAt keys place x
  pub number : slice_index_or numbers place 0 ≡ n

-- it is new, and so is its number
pub record IsAdded {K : Type 0} (old new : List K) (old_numbers new_numbers : List ℕ) (old_entries new_entries : List NumberedAtom) (x : K) (entry : NumberedAtom) (n : ℕ) : Type 0 where
  pub fresh : Contains old x → ⊥
  pub keys : new ≡ old ++ x ∷ []
  pub numbers : new_numbers ≡ old_numbers ++ n ∷ []
  pub entries : new_entries ≡ old_entries ++ entry ∷ []
  pub number : n ≡ length old_entries
  pub few : length old_entries < 2 ^ 31

-- nothing changes
pub record IsUnchanged {K : Type 0} (old new : List K) (old_numbers new_numbers : List ℕ) (old_entries new_entries : List NumberedAtom) : Type 0 where
  pub keys : new ≡ old
  pub numbers : new_numbers ≡ old_numbers
  pub entries : new_entries ≡ old_entries

-- the key has this number
abbrev pub IsNumberedBy : {K : Type 0} → List K → List K → List ℕ → List ℕ → List NumberedAtom → List NumberedAtom → K → NumberedAtom → ℕ → Type 0
IsNumberedBy old new old_numbers new_numbers old_entries new_entries x entry n =
    (IsUnchanged old new old_numbers new_numbers old_entries new_entries × WasKnown old old_numbers x n)
    ⊎ IsAdded old new old_numbers new_numbers old_entries new_entries x entry n
