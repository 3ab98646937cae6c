-- Bounds as atoms, by the sums of the numbers.
use Rattle.std.specs.Prelude.{◌≡◌, ◌≢◌, ◌<◌, List, [], ◌++◌, map, length, All, AllPairs, slice_index_or}
use Rattle.smt_meaning.specs.declared.clauses.Summand.{Summand}
use Rattle.smt_meaning.specs.declared.clauses.Atom.{Atom}
use Rattle.smt_meaning.specs.declared.clauses.Atom.TheVariants.{AtMost}
use Rattle.atom_form.specs.Sums.{AreApart as AreApartSums}
use Rattle.atom_form.specs.declared.bound.SumBound.{SumBound}
use Rattle.atom_form.specs.Numbering.{AreApart}

abbrev pub atom_of : List (List Summand) → SumBound → Atom
atom_of sums b = AtMost (slice_index_or sums b.sum []) b.threshold

-- each bound's sum has a number
abbrev pub HaveSums : List (List Summand) → List SumBound → Type 0
HaveSums sums bounds = All (λ (b : SumBound). b.sum < length sums) bounds

-- no two of the atoms are the same
abbrev pub AtomsAreDifferent : Type 0
AtomsAreDifferent =
    (sums : List (List Summand)) (bounds : List SumBound) → AreApartSums sums → HaveSums sums bounds → AreApart bounds
    → AllPairs (λ (a b : Atom). a ≢ b) (map (atom_of sums) bounds)

abbrev pub AtomsStay : Type 0
AtomsStay = (sums more : List (List Summand)) (bounds : List SumBound) → HaveSums sums bounds → map (atom_of (sums ++ more)) bounds ≡ map (atom_of sums) bounds
