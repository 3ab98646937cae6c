-- The parts of a term, and numbers of their atoms.
use Rattle.std.specs.Prelude.{◌≡◌, ◌<◌, ◌⊎◌, ◌++◌, ◌∷◌, [], ℕ, Bool, true, false, IsTrue, List, length, map, All, Contains, Option, Some, None, slice_index_or}
use Rattle.smt_meaning.specs.declared.terms.Head.TheVariants.{Theory}
use Rattle.smt_meaning.specs.declared.terms.Operator.{Operator}
use Rattle.smt_meaning.specs.declared.nodes.Node.{Node}
use Rattle.smt_meaning.specs.declared.clauses.Atom.{Atom}
use Rattle.smt_meaning.specs.declared.clauses.Atom.TheVariants.{Truth, Same}
use Rattle.smt_meaning.specs.declared.clauses.Literal.{Literal}
use Rattle.smt_meaning.specs.Declaration.{Declaration}
use Rattle.smt_meaning.specs.Term.{Tree, operate, truth_of}
use Rattle.proof_meaning.specs.Proof.{AreTerms, node_at}
use Rattle.proof_meaning.specs.Rules.{HasParts, IsForm, along, not_above, below, turned, pairs, truths, every, no_one, some_by}
use Rattle.proof_terms.specs.declared.verdict.Verdict.{Verdict}
use Rattle.proof_terms.specs.declared.verdict.Verdict.TheVariants.{Good, Wrong, Range}
use Rattle.proof_terms.specs.declared.form_values.Connective.{Connective}
use Rattle.proof_terms.specs.declared.form_parts.Relation.{Relation}
use Rattle.proof_terms.specs.declared.form_parts.Relation.TheVariants.{Equal, AtMost, Less, AtLeast, Greater}
use Rattle.proof_terms.specs.declared.form_parts.Kind.{Kind}
use Rattle.proof_terms.specs.declared.form_parts.Kind.TheVariants.{Bools, Neighbours, Pairs, NoParts}
use Rattle.proof_terms.specs.Terms.{ProofTerms}
use Rattle.proof_terms.specs.Range.{neighbours_fit, not_above_fits, less_fits, bounds_fit}
use Rattle.proof_terms.specs.Kept.{Kept, IsCodeOf, AreCodesOf, KeepsAll, GoOn}
use Rattle.proof_terms.specs.FormValues.{connective_value}

-- the term at this place has this operator and these arguments, which are earlier
pub record IsOperation (t : ProofTerms) (i : ℕ) (o : Operator) (is : List ℕ) : Type 0 where
  pub within : i < length t.nodes
  pub terms : AreTerms t.declared t.nodes t.trees
  pub node : node_at t.nodes i ≡ record { head = Theory o; arguments = is }
  pub earlier : All (λ j. j < i) is

-- ---- what an operator makes of its arguments

-- the atom by which two neighbours compare
abbrev pub relation_atom : List Tree → Relation → ℕ → ℕ → Atom
relation_atom ts Equal = Same
relation_atom ts AtMost = not_above ts
relation_atom ts Less = below ts
relation_atom ts AtLeast = turned (not_above ts)
relation_atom ts Greater = turned (below ts)

-- folding it stays in the range
abbrev pub relation_fits : List Tree → Relation → ℕ → ℕ → Bool
relation_fits ts Equal = λ i j. true
relation_fits ts AtMost = not_above_fits ts
relation_fits ts Less = less_fits ts
relation_fits ts AtLeast = λ i j. not_above_fits ts j i
relation_fits ts Greater = λ i j. less_fits ts j i

-- these are the parts and the value, and no others are
pub record HasJust (ds : List Declaration) (ts : List Tree) (o : Operator) (is : List ℕ) (parts : List Atom) (value : (Atom → Bool) → Bool) : Type 0 where
  pub has : HasParts ds ts o is parts value
  pub only : (others : List Atom) (other : (Atom → Bool) → Bool) → HasParts ds ts o is others other → (others ≡ parts) × ((v : Atom → Bool) → other v ≡ value v)

-- the parts are the truths of the arguments
pub record IsOfBools (ds : List Declaration) (ts : List Tree) (o : Operator) (is : List ℕ) (c : Connective) : Type 0 where
  pub just : HasJust ds ts o is (map Truth is) (λ v. truth_of (operate o (truths v is)))
  pub gives : (v : Atom → Bool) → truth_of (operate o (truths v is)) ≡ connective_value c (map v (map Truth is))
  pub fits : bounds_fit ts o is ≡ true

-- they are the atoms of neighbours
pub record IsOfNeighbours (ds : List Declaration) (ts : List Tree) (o : Operator) (is : List ℕ) (r : Relation) : Type 0 where
  pub just : HasJust ds ts o is (along (relation_atom ts r) is) (λ v. every v (along (relation_atom ts r) is))
  pub fits : bounds_fit ts o is ≡ neighbours_fit (relation_fits ts r) is

-- they are the equalities of pairs
pub record IsOfPairs (ds : List Declaration) (ts : List Tree) (o : Operator) (is : List ℕ) : Type 0 where
  pub just : HasJust ds ts o is (pairs is) (λ v. no_one v (pairs is))
  pub fits : bounds_fit ts o is ≡ true

-- there are none
pub record HasNoParts (ds : List Declaration) (ts : List Tree) (o : Operator) (is : List ℕ) : Type 0 where
  pub without : (parts : List Atom) (value : (Atom → Bool) → Bool) → HasParts ds ts o is parts value → ⊥
  pub fits : bounds_fit ts o is ≡ true

-- by kind
abbrev pub IsKind : List Declaration → List Tree → Operator → List ℕ → Kind → Type 0
IsKind ds ts o is (Bools c) = IsOfBools ds ts o is c
IsKind ds ts o is (Neighbours r) = IsOfNeighbours ds ts o is r
IsKind ds ts o is Pairs = IsOfPairs ds ts o is
IsKind ds ts o is NoParts = HasNoParts ds ts o is

-- ---- numbers of atoms

-- an atom has this number
pub record IsNumberOf (atoms : List Atom) (n : ℕ) (a : Atom) : Type 0 where
  pub within : n < length atoms
  pub small : n < 2147483648
  pub atom : (d : Atom) → slice_index_or atoms n d ≡ a

-- a bound has a number, or folding it leaves the range
abbrev pub IsNumbered : List Atom → Atom → Bool → Option ℕ → Type 0
IsNumbered atoms a fits (Some n) = IsNumberOf atoms n a × (fits ≡ true)
IsNumbered atoms a fits None = fits ≡ false

-- a number of each atom
abbrev pub AreNumbersOf : List Atom → List ℕ → List Atom → Type 0
AreNumbersOf atoms [] [] = Unit {0}
AreNumbersOf atoms (n ∷ ns) (a ∷ rest) = IsNumberOf atoms n a × AreNumbersOf atoms ns rest
AreNumbersOf atoms _ _ = ⊥

-- more atoms have numbers, and nothing else is new
pub record Extends (old new : Kept) : Type 0 where
  pub atoms : GoOn old.atoms new.atoms
  pub clauses : new.clauses ≡ old.clauses
  pub codes : (c : ℕ) (l : Literal) → IsCodeOf old.atoms c l → IsCodeOf new.atoms c l
  pub kept : (before : List (List Literal)) → KeepsAll old before → KeepsAll new before

-- ---- literals

-- each literal is on a term's own truth or on a part
abbrev pub AreOnParts : ℕ → List Atom → List Literal → Type 0
AreOnParts i parts ls = All (λ (l : Literal). (l.atom ≡ Truth i) ⊎ Contains parts l.atom) ls

-- one is true wherever the term has the value that its parts give it
abbrev pub AreTrueBy : ℕ → ((Atom → Bool) → Bool) → List Literal → Type 0
AreTrueBy i value ls = (v : Atom → Bool) → v (Truth i) ≡ value v → IsTrue (some_by v ls)

-- the value that the parts give
abbrev pub by_connective : Connective → List Atom → (Atom → Bool) → Bool
by_connective c parts v = connective_value c (map v parts)

-- ---- what judging comes to

-- one clause more is kept
pub record KeepsClause (old new : Kept) (ls : List Literal) : Type 0 where
  pub keeps : (before : List (List Literal)) → KeepsAll old before → KeepsAll new (before ++ ls ∷ [])

-- the clause is by the rule, and kept
pub record IsRightForm (ds : List Declaration) (ns : List Node) (ts : List Tree) (o : Operator) (is : List ℕ) (i : ℕ) (ls : List Literal) (old new : Kept) : Type 0 where
  pub form : IsForm ds ns ts i ls
  pub fits : bounds_fit ts o is ≡ true
  pub kept : KeepsClause old new ls

-- it isn't by the rule
pub record IsWrongForm (ds : List Declaration) (ns : List Node) (ts : List Tree) (o : Operator) (is : List ℕ) (i : ℕ) (ls : List Literal) : Type 0 where
  pub no_form : IsForm ds ns ts i ls → ⊥
  pub fits : bounds_fit ts o is ≡ true

-- by verdict
abbrev pub IsJudgedForm : List Declaration → List Node → List Tree → Operator → List ℕ → ℕ → List Literal → Kept → Kept → Verdict → Type 0
IsJudgedForm ds ns ts o is i ls old new Good = IsRightForm ds ns ts o is i ls old new
IsJudgedForm ds ns ts o is i ls old new Wrong = IsWrongForm ds ns ts o is i ls
IsJudgedForm ds ns ts o is i ls old new Range = bounds_fit ts o is ≡ false

-- ---- what judging by numbers comes to

-- literals on the right atoms, one of which is always true
pub record IsTrueClause (i : ℕ) (parts : List Atom) (value : (Atom → Bool) → Bool) (ls : List Literal) : Type 0 where
  pub on : AreOnParts i parts ls
  pub always : AreTrueBy i value ls

-- by verdict, whatever literals and parts have these codes and numbers
abbrev pub IsConcluded : Kept → Kept → List ℕ → ℕ → Connective → List ℕ → Verdict → Type 0
IsConcluded old new codes i c numbers Good =
    (ls : List Literal) (parts : List Atom) → AreCodesOf old.atoms codes ls → AreNumbersOf old.atoms numbers parts → IsTrueClause i parts (by_connective c parts) ls × KeepsClause old new ls
IsConcluded old new codes i c numbers Wrong =
    (ls : List Literal) (parts : List Atom) → AreCodesOf old.atoms codes ls → AreNumbersOf old.atoms numbers parts → IsTrueClause i parts (by_connective c parts) ls → ⊥
IsConcluded old new codes i c numbers Range = ⊥
