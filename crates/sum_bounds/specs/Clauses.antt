-- What told bounds say of numbers that an interpretation gives to terms.
use Rattle.std.specs.Prelude.{◌≡◌, ℕ, List, map, ℤ, All}
use Rattle.fraction128.specs.declared.ratio.Ratio.{Ratio}
use Rattle.fraction128.specs.Number.{whole}
use Rattle.fraction128.specs.declared.Summand.{Summand}
use Rattle.fraction128.specs.Grid.{is_turned, turned}
use Rattle.smt_meaning.specs.declared.clauses.Summand as Places
use Rattle.smt_meaning.specs.declared.clauses.Atom.TheVariants.{AtMost}
use Rattle.literals.specs.Signed.{Signed}
use Rattle.search_port.specs.State.{Reading, atom_at}
use Rattle.search_port.specs.Valid.{IsValid}
use Rattle.sum_bounds.specs.Bounds.{State, Told, told_bound, sums, leaf_values, Meets, IsConflict, AreWhole}

-- a sum over places, as one over terms
abbrev pub plain : List Places.Summand → List Summand
plain ps = map (λ (p : Places.Summand). record { coefficient = p.coefficient; term = p.term }) ps

-- the bound is what its literal says: the literal's atom is that a sum is at most a number, and the variable stands for that sum or, turned, for its negation
pub record IsSaid (r : Reading) (sum : ℕ → List Summand) (t : Told) : Type 0 where
  pub of : List Places.Summand
  pub number : ℤ
  pub atom : atom_at r.table t.literal.atom ≡ AtMost of number
  pub variable : sum t.variable ≡ turned (plain of)
  pub exact : t ≡ told_bound t.literal t.variable (is_turned (plain of)) number

-- where the bounds told are what their literals say, each conflict is a clause that is true under every interpretation
abbrev pub ConflictsAreValid : Type 0
ConflictsAreValid =
    (r : Reading) (level : ℕ) (sum : ℕ → List Summand) (told : List Told) (ls : List Signed) → All (IsSaid r sum) told → IsConflict sum told ls → IsValid r level ls

-- the whole number of each term's value
abbrev pub whole_values : State → ℕ → Ratio
whole_values s term = whole (leaf_values s term).numerator

-- where the terms' values are whole and meet the bounds told, the whole numbers meet them
abbrev pub WholesMeet : Type 0
WholesMeet = (s : State) → AreWhole s → All (Meets (sums s) (leaf_values s)) s.told → All (Meets (sums s) (whole_values s)) s.told
