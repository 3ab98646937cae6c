-- Branches: of a whole number that it is at most k, or at least the next one.
use Rattle.std.specs.Prelude.{◌≡◌, ℕ, Bool, true, false, not, List, [], ◌∷◌, ℤ, pos, negsuc, ◌+ℤ◌, ◌-ℤ◌, neg_ℤ}
use Rattle.fraction128.specs.declared.ratio.Ratio.{Ratio}
use Rattle.fraction128.specs.Whole.{InRange}
use Rattle.fraction128.specs.Lines.{IsFloor}
use Rattle.smt_meaning.specs.declared.clauses.Summand.{Summand}
use Rattle.smt_meaning.specs.declared.clauses.Atom.{Atom}
use Rattle.smt_meaning.specs.declared.clauses.Atom.TheVariants.{AtMost}
use Rattle.smt_meaning.specs.Term.{Tree, Interpretation}
use Rattle.smt_meaning.specs.Clause.{atom_true}
use Rattle.smt_meaning.specs.Atoms.{normal_bound}
use Rattle.literals.specs.Signed.{Signed}
use Rattle.search_port.specs.State.{Reading, atom_at}
use Rattle.search_port.specs.Valid.{IsValid}
use Rattle.int_branch.specs.declared.sides.Sides.{Sides}

-- a term times a number
abbrev pub multiple : ℤ → ℕ → List Summand
multiple c term = record { coefficient = c; term = term } ∷ []

-- the number that bounds the negation where the term is at least k + 1
abbrev pub other_number : ℤ → ℤ
other_number k = neg_ℤ k -ℤ pos 1

-- the term is at most k
abbrev pub below : ℕ → ℤ → Atom
below term k = AtMost (multiple (pos 1) term) k

-- the term is at least k + 1
abbrev pub above : ℕ → ℤ → Atom
above term k = AtMost (multiple (negsuc 0) term) (other_number k)

-- the two sides of the term at a value, with its floor, which both lie in the range
pub record IsBranch (term : ℕ) (value : Ratio) (b : Sides) : Type 0 where
  pub floor : IsFloor b.floor value
  pub below : b.below ≡ below term b.floor
  pub above : b.above ≡ above term b.floor
  pub in_range : InRange b.floor
  pub next_in_range : InRange (b.floor +ℤ pos 1)

-- ---- laws

-- both atoms are in normal form
abbrev pub AreNormal : Type 0
AreNormal =
    (term : ℕ) (k : ℤ) → (normal_bound (multiple (pos 1) term) k ≡ below term k) × (normal_bound (multiple (negsuc 0) term) (other_number k) ≡ above term k)

-- exactly one of the two holds
abbrev pub OneHolds : Type 0
OneHolds = (ts : List Tree) (I : Interpretation) (term : ℕ) (k : ℤ) → atom_true ts I (above term k) ≡ not (atom_true ts I (below term k))

abbrev pub either_sign : ℕ → ℕ → Bool → List Signed
either_sign m n b = record { atom = m; positive = b } ∷ record { atom = n; positive = b } ∷ []

-- where two numbers are those of a branch, the clause of both, and that of both negated, are true under every interpretation
abbrev pub BranchesAreValid : Type 0
BranchesAreValid =
    (r : Reading) (level m n term : ℕ) (k : ℤ) → atom_at r.table m ≡ below term k → atom_at r.table n ≡ above term k
    → IsValid r level (either_sign m n true) × IsValid r level (either_sign m n false)
